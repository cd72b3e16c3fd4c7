-- What the test says of streams with given identifiers, at one rate and at several.
use Rattle.std.specs.Prelude.{◌≡◌, ◌≢◌, ℕ, ◌<◌, ◌⊎◌, ◌↔◌, List, [], length, get_or, All, AllPairs, Any, Contains}
use Rattle.cop_frame.specs.declared.rates.Rate.{Rate}
use Rattle.cop_frame.specs.Rate.{kbits_of}
use Rattle.cop_rta.specs.declared.streams.Stream.{Stream}
use Rattle.cop_rta.specs.declared.verdicts.Verdict.{Verdict}
use Rattle.cop_rta.specs.declared.verdicts.Verdict.TheVariants.{Long}
use Rattle.cop_rta.specs.Test.{Passes, place_by_id}
use Rattle.cop_rta.specs.Verdict.{IsJudged, IsPass}
use Rattle.cop_cert.specs.Assignments.{IsTested}
use Rattle.cop_net.specs.Network.{Net}
use Rattle.cop_standing.specs.declared.answers.Answer.{Answer}
use Rattle.cop_standing.specs.declared.standing.Standing.{Standing}
use Rattle.cop_standing.specs.Identifiers.{StandAs}

-- a stream is tested if it is a PDO, or an SDO frame with a deadline
abbrev pub IsAsked : List Stream → ℕ → ℕ → Type 0
IsAsked streams pdos k = (k < pdos) ⊎ IsTested streams pdos k

-- each stream that is tested passes under the identifiers that the streams have
abbrev pub AllPassNow : Rate → List Stream → ℕ → Type 0
AllPassNow rate streams pdos = (k : ℕ) → k < length streams → IsAsked streams pdos k → Passes (place_by_id streams k rate)

-- a stream that is tested and fails
pub record IsFailing (rate : Rate) (streams : List Stream) (pdos k : ℕ) : Type 0 where
  pub inside : k < length streams
  pub asked : IsAsked streams pdos k
  pub fails : Passes (place_by_id streams k rate) → ⊥

-- the same by what is said of each stream
pub record IsLate (streams : List Stream) (pdos : ℕ) (verdicts : List Verdict) (k : ℕ) : Type 0 where
  pub inside : k < length streams
  pub asked : IsAsked streams pdos k
  pub fails : IsPass (get_or verdicts k Long) → ⊥

-- The answer at a rate: what the test says of each stream, and exactly those that are tested and fail, by their places. There is none of them
-- exactly where all pass.
pub record IsAnswer (rate : Rate) (streams : List Stream) (pdos : ℕ) (a : Answer) : Type 0 where
  pub rate_is : a.rate ≡ rate
  pub count : length a.verdicts.items ≡ length streams
  pub judged : (k : ℕ) → k < length streams → IsJudged (place_by_id streams k rate) (get_or a.verdicts.items k Long)
  pub failing : (k : ℕ) → Contains a.failing.items k ↔ IsFailing rate streams pdos k
  pub rises : AllPairs (λ j k. j < k) a.failing.items
  pub passes : (a.failing.items ≡ []) ↔ AllPassNow rate streams pdos

-- answers on streams by rising rate, one for each of some rates and for no other
pub record AreAnswers (streams : List Stream) (pdos : ℕ) (Are : Rate → Type 0) (answers : List Answer) : Type 0 where
  pub rise : AllPairs (λ a b. kbits_of a.rate < kbits_of b.rate) answers
  pub only : All (λ a. Are a.rate) answers
  pub every : (rate : Rate) → Are rate → Any (λ a. a.rate ≡ rate) answers
  pub each : All (λ a. IsAnswer a.rate streams pdos a) answers

-- the answers of a network as it stands: one at each of its rates
pub record IsStanding (net : Net) (s : Standing) : Type 0 where
  pub stands : StandAs net s.streams
  pub answers : AreAnswers s.streams (length net.rows) (Contains net.equipment.rates) s.answers.items

-- the first answer by which all pass, and so that of the slowest rate
pub record IsSlowest (answers : List Answer) (place : ℕ) : Type 0 where
  pub inside : place < length answers
  pub passes : (a : Answer) → (get_or answers place a).failing.items ≡ []
  pub slower : (k : ℕ) (a : Answer) → k < place → (get_or answers k a).failing.items ≢ []
