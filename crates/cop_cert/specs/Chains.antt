-- The lists that are made: whole chains of an equation's values.
use Rattle.std.specs.Prelude.{◌≡◌, ℕ, ◌+◌, ◌-◌, ◌*◌, ◌^◌, ◌<◌, ◌≤◌, ◌⊎◌, Bool, List, [], ◌∷◌, All, AllPairs, length}
use Rattle.cop_frame.specs.declared.rates.Rate.{Rate}
use Rattle.cop_rta.specs.declared.streams.Stream.{Stream}
use Rattle.cop_rta.specs.Ranges.{first_range, second_range}
use Rattle.cop_rta.specs.Test.{place_among, StreamPlace, Passes, busy_at, queueing_at, blocking, cost_at, jitter_at, period_at, horizon}
use Rattle.cop_rta.specs.Verdict.{IsFirstLate}
use Rattle.cop_cert.specs.declared.refusals.Evidence.{Evidence}
use Rattle.cop_cert.specs.declared.refusals.Evidence.TheVariants.{Long, Late}
use Rattle.cop_cert.specs.declared.refusals.Cause.{Cause}
use Rattle.cop_cert.specs.declared.refusals.Cause.TheVariants.{Places, Sync, Sdo}
use Rattle.cop_cert.specs.declared.refusals.Member.{Member}
use Rattle.cop_cert.specs.declared.refusals.Refusal.{Refusal}
use Rattle.cop_cert.specs.Assignments.{id_at, IsTested}
use Rattle.cop_cert.specs.Causes.{IsSync, sync_trial, kept}
use Rattle.cop_cert.specs.Sets.{is_in_trial, trial}
use Rattle.cop_cert.specs.Evidence.{first_of, last_of, is_listed, pdos_of, is_member}

-- after a number within the limit comes the equation's value at it, which is greater
unfoldable pub Follows : (ℕ → ℕ) → ℕ → ℕ → List ℕ → Type 0
Follows f limit a [] = Unit {0}
Follows f limit a (b ∷ rest) = (a ≤ limit) × (a < b) × (b ≡ f a) × Follows f limit b rest

abbrev pub IsRun : (ℕ → ℕ) → ℕ → List ℕ → Type 0
IsRun f limit [] = ⊥
IsRun f limit (a ∷ rest) = Follows f limit a rest

-- an equation's values from a number on, of which all but the last are within the limit, and each fits 64 bits
pub record IsChain (f : ℕ → ℕ) (from limit : ℕ) (numbers : List ℕ) : Type 0 where
  pub begins : first_of numbers ≡ from
  pub follows : IsRun f limit numbers
  pub fit : All (λ n. n < 2 ^ 64) numbers

-- a chain that is as long as can be: it ends above the limit or at a solution
pub record IsWholeChain (f : ℕ → ℕ) (from limit : ℕ) (numbers : List ℕ) : Type 0 where
  pub chain : IsChain f from limit numbers
  pub ends : (limit < last_of numbers) ⊎ (last_of numbers ≡ f (last_of numbers))

-- the chain ends above the limit
pub record EndsAbove (f : ℕ → ℕ) (from limit : ℕ) (numbers : List ℕ) : Type 0 where
  pub chain : IsChain f from limit numbers
  pub above : limit < last_of numbers

-- the chain ends at a solution
pub record EndsSolved (f : ℕ → ℕ) (from limit : ℕ) (numbers : List ℕ) : Type 0 where
  pub chain : IsChain f from limit numbers
  pub within : last_of numbers ≤ limit
  pub solves : last_of numbers ≡ f (last_of numbers)

-- the chain of an instance's queueing equation up to its wait, where it is the first that is late
pub record IsQueueOf (p : StreamPlace) (q : ℕ) (queue : List ℕ) : Type 0 where
  pub waits : EndsSolved (queueing_at p q) (blocking p + q * cost_at p) horizon queue
  pub first : IsFirstLate p q (jitter_at p + last_of queue + cost_at p - q * period_at p)

-- the busy list up to the busy time, and the queue list of the first instance that is late
pub record IsWholeLate (p : StreamPlace) (q : ℕ) (busy queue : List ℕ) : Type 0 where
  pub busy_time : EndsSolved (busy_at p) 1 horizon busy
  pub queue_of : IsQueueOf p q queue

-- evidence with the whole chains: the first number above the horizon, or the first instance that is late
abbrev pub IsWholeEvidence : StreamPlace → Evidence → Type 0
IsWholeEvidence p (Long busy) = EndsAbove (busy_at p) 1 horizon busy
IsWholeEvidence p (Late q busy queue) = IsWholeLate p q busy queue

-- no list of the evidence has more numbers
abbrev pub HasAtMost : ℕ → Evidence → Type 0
HasAtMost count (Long busy) = length busy ≤ count
HasAtMost count (Late q busy queue) = (length busy ≤ count) × (length queue ≤ count)

-- each of some streams fails where a test says what is above
abbrev pub AllFail : List Stream → Rate → List ℕ → (ℕ → Bool) → Type 0
AllFail streams rate members above = All (λ m. Passes (place_among streams above m rate) → ⊥) members

-- PDOs that rise and each of which fails in their trial
pub record FailTogether (bound : ℕ) (streams : List Stream) (pdos : ℕ) (rate : Rate) (members : List ℕ) : Type 0 where
  pub rise : AllPairs (λ m n. m < n) members
  pub inside : All (λ m. m < pdos) members
  pub fail : AllFail streams rate members (is_in_trial bound streams pdos (is_listed members))

-- members for some PDOs, with the whole chains of each where a test says what is above
pub record AreMade (streams : List Stream) (above : ℕ → Bool) (rate : Rate) (pdos : List ℕ) (members : List Member) : Type 0 where
  pub pdos_are : pdos_of members ≡ pdos
  pub whole : All (λ m. IsWholeEvidence (place_among streams above m.pdo rate) m.evidence) members

-- the members of a trial of some PDOs
abbrev pub AreMadeOf : ℕ → List Stream → ℕ → Rate → List ℕ → List Member → Type 0
AreMadeOf bound streams pdos rate pdos_listed members =
    AreMade streams (is_in_trial bound streams pdos (is_listed pdos_listed)) rate pdos_listed members

-- whole chains: those of the members, of SYNC, and of an SDO frame
abbrev pub IsMadeCause : Rate → List Stream → ℕ → Cause → Type 0
IsMadeCause rate streams pdos (Places members) = AreMadeOf first_range.least streams pdos rate (pdos_of members) members
IsMadeCause rate streams pdos (Sync busy) =
    (sync : ℕ) × IsSync streams pdos sync × EndsAbove (busy_at (sync_trial rate streams pdos sync)) 1 horizon busy
IsMadeCause rate streams pdos (Sdo up id evidence) =
    AreMadeOf second_range.least streams pdos rate (pdos_of up) up
    × (f : ℕ) × IsTested streams pdos f × (id_at streams f ≡ id) × IsWholeEvidence (trial id rate streams pdos (kept pdos (is_member up)) f) evidence

abbrev pub IsMade : List Stream → ℕ → Refusal → Type 0
IsMade streams pdos r = IsMadeCause r.rate streams pdos r.cause

-- no list of a cause has more numbers
abbrev pub IsShort : ℕ → Cause → Type 0
IsShort count (Places members) = All (λ m. HasAtMost count m.evidence) members
IsShort count (Sync busy) = length busy ≤ count
IsShort count (Sdo up id evidence) = All (λ m. HasAtMost count m.evidence) up × HasAtMost count evidence
