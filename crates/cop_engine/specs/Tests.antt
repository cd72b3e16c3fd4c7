-- The test of the streams of a table.
use Rattle.std.specs.Prelude.{◌≡◌, ◌↔◌, ℕ, ◌<◌, Bool, IsTrue, List, length, map, get_or, All, Ok, Err, Option, option_map}
use Rattle.cop_frame.specs.declared.rates.Rate.{Rate}
use Rattle.cop_rta.specs.declared.streams.Stream.{Stream}
use Rattle.cop_rta.specs.declared.verdicts.Verdict.{Verdict}
use Rattle.cop_rta.specs.declared.verdicts.Verdict.TheVariants.{Long}
use Rattle.cop_rta.specs.declared.tables.Refusal.{Refusal}
use Rattle.cop_rta.specs.Test.{place_by_id}
use Rattle.cop_rta.specs.Verdict.{IsJudged, IsPass}
use Rattle.cop_rta.specs.Entries.{entry_of}
use Rattle.cop_rta.specs.Streams.{place_of_id}
use Rattle.cop_rta.specs.Tables.{streams_of, number_of_rule}
use Rattle.cop_engine.specs.declared.faults.Fault.{Fault}
use Rattle.cop_engine.specs.declared.faults.Fault.TheVariants as faults
use Rattle.cop_engine.specs.Reports.{lines_below, line_at}

-- the test says this of a stream, with the lower identifiers above it
abbrev pub IsVerdict : Rate → List Stream → ℕ → Verdict → Type 0
IsVerdict rate streams index verdict = IsJudged (place_by_id streams index rate) verdict

-- the verdicts of the first streams
abbrev pub AreVerdicts : Rate → List Stream → List Verdict → ℕ → Type 0
AreVerdicts rate streams verdicts count =
    (length verdicts ≡ count) × ((i : ℕ) → i < count → IsVerdict rate streams i (get_or verdicts i Long))

-- some streams, and what is said of each
pub record TestedStreams : Type 0 where
  pub streams : List Stream
  pub verdicts : List Verdict

-- what is said of the stream of an identifier, if there is one
abbrev pub verdict_at : List Stream → List Verdict → ℕ → Option Verdict
verdict_at streams verdicts id = option_map (λ place. get_or verdicts place Long) (place_of_id streams id)

-- a table has these streams, and the test says this of each
pub record AreTested (rate : Rate) (text : List ℕ) (t : TestedStreams) : Type 0 where
  pub read : streams_of text ≡ Ok (map entry_of t.streams)
  pub judged : AreVerdicts rate t.streams t.verdicts (length t.streams)

-- the lines of the verdicts of a table's streams, and whether all streams pass
pub record IsReport (rate : Rate) (text out : List ℕ) (all : Bool) : Type 0 where
  pub streams : List Stream
  pub read : streams_of text ≡ Ok (map entry_of streams)
  pub verdicts : List Verdict
  pub judged : AreVerdicts rate streams verdicts (length streams)
  pub lines : out ≡ lines_below (line_at streams verdicts) 2048
  pub all_pass : IsTrue all ↔ All IsPass verdicts

-- why there is none
abbrev pub Explains : List ℕ → Fault → Type 0
Explains text (faults.Network r) = ⊥
Explains text (faults.Refused number place) = (r : Refusal) × (streams_of text ≡ Err r) × (number ≡ number_of_rule r.rule) × (place ≡ r.place)
Explains text faults.Simulation = ⊥
Explains text (faults.File name) = ⊥
Explains text faults.Usage = ⊥
Explains text faults.Memory = Unit {0}
