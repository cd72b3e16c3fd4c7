-- The text of a plan.
use Rattle.std.specs.Prelude.{ℕ, ◌<◌, List, [], ◌++◌, Bool, true, false, codes, decimal, length, get_or, slice_get, option_map, Option, None, Some}
use Rattle.std.specs.List.{flat_map}
use Rattle.std.specs.Option.{option_map_or}
use Rattle.cop_frame.specs.declared.rates.Rate.{Rate}
use Rattle.cop_frame.specs.Rate.{kbits_of}
use Rattle.cop_rta.specs.declared.verdicts.Verdict.{Verdict}
use Rattle.cop_rta.specs.declared.verdicts.Verdict.TheVariants.{Long}
use Rattle.cop_rta.specs.Verdict.{response_of}
use Rattle.cop_cert.specs.declared.refusals.Cause.{Cause}
use Rattle.cop_cert.specs.declared.refusals.Cause.TheVariants.{Places, Sync, Sdo}
use Rattle.cop_cert.specs.declared.refusals.Refusal.{Refusal}
use Rattle.cop_rows.specs.declared.pdo_table.PdoRow.{PdoRow}
use Rattle.cop_plan.specs.declared.assigning.Outcome.{Outcome}
use Rattle.cop_plan.specs.declared.assigning.Outcome.TheVariants.{Planned, Refused}
use Rattle.cop_plan.specs.Values.{others_beyond}
use Rattle.cop_engine.specs.Reports.{hexadecimal, lines_below}

abbrev pub rate_line : Rate → List ℕ
rate_line rate = codes "rate " ++ decimal (kbits_of rate) ++ codes "\n"

-- a PDO's node and number
abbrev pub pdo_name : PdoRow → List ℕ
pdo_name row = codes "pdo " ++ decimal row.node ++ codes "." ++ decimal row.tpdo

abbrev pub response_end : ℕ → List ℕ
response_end response = codes "h response " ++ decimal response ++ codes "\n"

-- a PDO, its identifier and its greatest response
abbrev pub pdo_line : PdoRow → ℕ → ℕ → List ℕ
pdo_line row id response = pdo_name row ++ codes " id " ++ hexadecimal id ++ response_end response

abbrev pub pdo_line_at : List PdoRow → List ℕ → List Verdict → ℕ → List ℕ
pdo_line_at rows ids verdicts k = option_map_or (λ row. pdo_line row (get_or ids k 0) (response_of (get_or verdicts k Long))) (slice_get rows k) []

-- the margin of a plan that was chosen by it
abbrev pub margin_line : Option ℕ → List ℕ
margin_line None = []
margin_line (Some margin) = codes "margin " ++ decimal margin ++ codes "\n"

-- the margin that is kept by those deadlines that can have it, if it is greater than that of all
abbrev pub others_line : Option ℕ → List ℕ
others_line None = []
others_line (Some margin) = codes "others " ++ decimal margin ++ codes "\n"

-- why a rate is refused: how many members its refusal has, or SYNC, or the identifier of an SDO frame
abbrev pub cause_text : Cause → List ℕ
cause_text (Places members) = codes "members " ++ decimal (length members)
cause_text (Sync busy) = codes "sync"
cause_text (Sdo up id evidence) = codes "sdo " ++ hexadecimal id

-- a refused rate
abbrev pub refused_line : Refusal → List ℕ
refused_line r = codes "refused " ++ decimal (kbits_of r.rate) ++ codes " " ++ cause_text r.cause ++ codes "\n"

-- an identifier that a cause has is one of 11 bits
abbrev pub HasIdentifier : Cause → Type 0
HasIdentifier (Places members) = Unit {0}
HasIdentifier (Sync busy) = Unit {0}
HasIdentifier (Sdo up id evidence) = id < 2048

-- the plan's rate, a line for each PDO in the order of the table, the margins, and a line for each refused rate
abbrev pub plan_text : List PdoRow → List Verdict → Outcome → List ℕ
plan_text rows verdicts (Planned plan) = rate_line plan.rate ++ lines_below (pdo_line_at rows plan.ids verdicts) (length rows) ++ margin_line (option_map (λ kept. kept.all) plan.margin) ++ others_line (others_beyond plan.margin) ++ flat_map refused_line plan.refusals
plan_text rows verdicts (Refused refusals) = codes "no rate passes\n" ++ flat_map refused_line refusals

abbrev pub is_planned : Outcome → Bool
is_planned (Planned plan) = true
is_planned (Refused refusals) = false

abbrev pub refusals_of : Outcome → List Refusal
refusals_of (Planned plan) = plan.refusals
refusals_of (Refused refusals) = refusals
