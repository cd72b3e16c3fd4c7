-- What the table of nodes says for PDOs, and of disturbed transfers.
use Rattle.std.specs.Prelude.{ℕ, Bool, true, false, ◌&&◌, ◌⊎◌, ◌==◌, nat_le, is_some, find, if◌then◌else◌, Option, Some, None, List, [], ◌∷◌}
use Rattle.std.specs.List.{list_any}
use Rattle.cop_rows.specs.declared.node_table.FrameRow.{FrameRow}
use Rattle.cop_rows.specs.declared.node_table.FrameKind.TheVariants.{Sync, Errors}
use Rattle.cop_rta.specs.declared.ranges.IdRange.{IdRange}
use Rattle.cop_rta.specs.Ranges.{first_range, second_range, IsIn}
use Rattle.cop_net.specs.declared.signals.Signals.{Signals}
use Rattle.cop_net.specs.Fixed.{key_of, rank_of}

-- a row of a frame that is sent
abbrev pub if_sent : Option FrameRow → Option FrameRow
if_sent None = None
if_sent (Some row) = if row.period == 0 then None else Some row

-- the row of SYNC, where it is sent
abbrev pub sync_of : List FrameRow → Option FrameRow
sync_of frames = if_sent (find (λ row. key_of row == rank_of Sync) frames)

-- the row of disturbed transfers, where there are any
abbrev pub errors_in : List FrameRow → Option FrameRow
errors_in frames = if_sent (find (λ row. key_of row == rank_of Errors) frames)

-- some SDO frame has a deadline
abbrev pub has_sdo_deadline : List FrameRow → Bool
has_sdo_deadline frames = list_any (λ f. is_some f.deadline) frames

-- what frames say for so many PDOs: SYNC's row, and the second range is open where an SDO frame has a deadline and there is room for all PDOs
abbrev pub signals_of : List FrameRow → ℕ → Signals
signals_of frames pdos = record { sync = sync_of frames; is_second_open = nat_le pdos second_range.count && has_sdo_deadline frames }

abbrev pub ranges_where : Bool → List IdRange
ranges_where false = first_range ∷ []
ranges_where true = first_range ∷ second_range ∷ []

-- the identifiers that a plan may give: those of the first range, and of the second where it is open
abbrev pub ranges_of : Signals → List IdRange
ranges_of signals = ranges_where signals.is_second_open

-- an identifier that a PDO may get, of one of both ranges
abbrev pub IsPdoId : ℕ → Type 0
IsPdoId id = IsIn first_range id ⊎ IsIn second_range id
