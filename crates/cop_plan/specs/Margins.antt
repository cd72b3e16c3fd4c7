-- Deadlines lowered by a margin, and the greatest margin with which some assignment passes.
use Rattle.std.specs.Prelude.{◌≡◌, ℕ, suc, ◌+◌, ◌-◌, ◌<◌, ◌≤◌, Bool, true, false, List, [], ◌∷◌, map, Option, None, Some, is_some, option_map}
use Rattle.std.specs.List.{list_any}
use Rattle.std.specs.Option.{option_map_or}
use Rattle.cop_frame.specs.declared.rates.Rate.{Rate}
use Rattle.cop_rta.specs.declared.streams.Stream.{Stream}
use Rattle.cop_rta.specs.Entries.{Entry, entry_of}
use Rattle.cop_rta.specs.Test.{StreamPlace, deadline_at, greatest_response}
use Rattle.cop_cert.specs.Assignments.{AllTestedPass, NoAssignmentPasses}
use Rattle.cop_plan.specs.declared.choices.Kept.{Kept}
use Rattle.cop_plan.specs.Caps.{cap_of, CanHave, capped}
use Rattle.cop_plan.specs.Orders.{IsPlanOrder}

-- the same with a deadline of so many ticks less
abbrev pub lower : ℕ → Entry → Entry
lower margin e = record { id = e.id; bytes = e.bytes; period = e.period; jitter = e.jitter; deadline = option_map (λ d. d - margin) e.deadline; every = e.every }

-- streams whose deadlines are each so many ticks less as a function says of their numbers
abbrev pub lowered_entries : (ℕ → ℕ) → List Stream → List Entry
lowered_entries amount [] = []
lowered_entries amount (s ∷ ss) = lower (amount 0) (entry_of s) ∷ lowered_entries (λ k. amount (suc k)) ss

-- The same streams, with such deadlines. A stream's deadline is one tick at least, so each deadline was above its amount.
abbrev pub AreLoweredBy : (ℕ → ℕ) → List Stream → List Stream → Type 0
AreLoweredBy amount streams lowered = map entry_of lowered ≡ lowered_entries amount streams

-- the same streams, each deadline so many ticks less
abbrev pub AreLowered : ℕ → List Stream → List Stream → Type 0
AreLowered margin streams lowered = AreLoweredBy (λ _. margin) streams lowered

-- the same streams, each deadline less by a margin or by the stream's cap, whichever is less
abbrev pub AreLoweredTo : ℕ → Rate → ℕ → List Stream → List Stream → Type 0
AreLoweredTo margin rate pdos streams lowered = AreLoweredBy (capped margin (cap_of rate streams pdos)) streams lowered

-- no assignment passes with each deadline so many ticks less
abbrev pub NoneKeeps : Rate → List Stream → ℕ → ℕ → Type 0
NoneKeeps rate streams pdos margin = (lowered : List Stream) → AreLowered margin streams lowered → NoAssignmentPasses rate lowered pdos

-- no assignment passes with each deadline so many ticks less, or less by the stream's cap
abbrev pub NoneReaches : Rate → List Stream → ℕ → ℕ → Type 0
NoneReaches rate streams pdos margin = (lowered : List Stream) → AreLoweredTo margin rate pdos streams lowered → NoAssignmentPasses rate lowered pdos

abbrev pub has_deadline : List Stream → Bool
has_deadline streams = list_any (λ s. is_some s.deadline) streams

-- no assignment keeps a greater margin; where no stream has a deadline, it is none
pub record IsGreatestMargin (rate : Rate) (streams : List Stream) (pdos margin : ℕ) : Type 0 where
  pub greatest : has_deadline streams ≡ true → (more : ℕ) → margin < more → NoneKeeps rate streams pdos more
  pub none : has_deadline streams ≡ false → margin ≡ 0

-- Some stream can have this margin, and with no greater one that some stream can have does an assignment pass if no deadline is lowered by
-- more than the stream's cap.
pub record IsGreatestCapped (rate : Rate) (streams : List Stream) (pdos margin : ℕ) : Type 0 where
  pub possible : 1 ≤ margin → CanHave rate streams pdos margin
  pub greatest : (more : ℕ) → margin < more → CanHave rate streams pdos more → NoneReaches rate streams pdos more

-- each PDO and each SDO frame with a deadline passes with each deadline so many ticks less
abbrev pub Keeps : ℕ → Rate → List Stream → ℕ → (ℕ → ℕ) → Type 0
Keeps margin rate streams pdos ids = (lowered : List Stream) × AreLowered margin streams lowered × AllTestedPass rate lowered pdos ids

-- the order of a plan for deadlines that are less by a margin or by the stream's cap
abbrev pub IsOrderTo : ℕ → Rate → List Stream → ℕ → (ℕ → ℕ) → Type 0
IsOrderTo margin rate streams pdos ids = (lowered : List Stream) × AreLoweredTo margin rate pdos streams lowered × IsPlanOrder rate lowered pdos ids

-- All deadlines keep the greatest margin that all can keep, and the identifiers are those of the order for the greatest margin that is kept by
-- those that can have it, while each of the others keeps its cap.
pub record AreKept (kept : Kept) (rate : Rate) (streams : List Stream) (pdos : ℕ) (ids : ℕ → ℕ) : Type 0 where
  pub keeps : Keeps kept.all rate streams pdos ids
  pub greatest : IsGreatestMargin rate streams pdos kept.all
  pub order : IsOrderTo kept.others rate streams pdos ids
  pub widest : IsGreatestCapped rate streams pdos kept.others
  pub no_less : kept.all ≤ kept.others

-- Which of the identifiers that pass a plan has: those of its order, or with a margin those of the order for the greatest one.
abbrev pub IsChosenOrder : Option Kept → Rate → List Stream → ℕ → (ℕ → ℕ) → Type 0
IsChosenOrder None rate streams pdos ids = IsPlanOrder rate streams pdos ids
IsChosenOrder (Some kept) rate streams pdos ids = AreKept kept rate streams pdos ids

-- to what margin deadlines were lowered
abbrev pub others_of : Option Kept → ℕ
others_of kept = option_map_or (λ k. k.others) kept 0

-- the stream at a place has a deadline, and its greatest response is so many ticks before it
pub record Leaves (p : StreamPlace) (margin : ℕ) : Type 0 where
  pub deadline : ℕ
  pub dated : deadline_at p ≡ Some deadline
  pub response : ℕ
  pub greatest : greatest_response p ≡ Some response
  pub left : response + margin ≡ deadline
