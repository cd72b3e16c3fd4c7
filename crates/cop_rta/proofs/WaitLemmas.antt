-- Where the search for a wait begins.
use Rattle.std.proofs.Common.{ℕ, ◌+◌, ◌-◌, ◌<◌, ◌≤◌, ◌≡◌, arith, slice_get, length, Some, sym, subst, zero-le, ⊎_elim}
use Rattle.std.proofs.lemmas.Bool.{cases_lt}
use Rattle.cop_rta.specs.declared.streams.Stream.{Stream}
use Rattle.cop_rta.specs.Solutions.{IsLeastSolution}
use Rattle.cop_rta.specs.Test.{StreamPlace, cost_at, cost_of, busy_at, queueing_at, IsBusyTime, IsQueuedWithin}
use Rattle.cop_rta.specs.Waits.{IsBelowWait, IsBelowBusy}
use Rattle.cop_rta.specs.TestLemmas.{busy_at-mono, queueing_at-mono}
use Rattle.cop_rta.proofs.LeastLemmas.{least_exists, same_least}
use Rattle.cop_rta.proofs.QueueLemmas.{wait_exists_at, busy_at_pos}

pub none_below : (p : StreamPlace) → IsBelowWait p 0 0
none_below p = λ y closed. zero-le

-- one instance more takes its cost more
next_asks : (p : StreamPlace) (q x : ℕ) → queueing_at p (q + 1) x ≡ queueing_at p q x + cost_at p
unfolding queueing_at
next_asks p q x = grind arith

-- what the equation does not lead past, the wait is not past
pub wait_below : (p : StreamPlace) (q w : ℕ) → IsLeastSolution (queueing_at p q) 0 w → IsBelowWait p q w
wait_below p q w s y closed =
    let found = least_exists (queueing_at p q) y (record { mono = queueing_at-mono p q }) closed in
    let same : w ≡ found.0 = same_least (queueing_at p q) 0 w found.0 s found.1 in
    omega (arith, same, found.2)

-- the next instance does not wait less than until this one is sent
pub next_below : (p : StreamPlace) (q w : ℕ) → IsBelowWait p q w → IsBelowWait p (q + 1) (w + cost_at p)
next_below p q w below y closed =
    let asked : queueing_at p (q + 1) y ≡ queueing_at p q y + cost_at p = next_asks p q y in
    let up : queueing_at p q (y - cost_at p) ≤ queueing_at p q y = queueing_at-mono p q (y - cost_at p) y (omega arith) in
    let before : w ≤ y - cost_at p = below (y - cost_at p) (omega (arith, up, asked, closed)) in
    omega (arith, before, asked, closed)

-- the equation does not fall there
pub rises : (p : StreamPlace) (q from : ℕ) → IsBelowWait p q from → from ≤ queueing_at p q from
rises p q from below = ⊎_elim
    (λ (lt : queueing_at p q from < from).
    let again : queueing_at p q (queueing_at p q from) ≤ queueing_at p q from = queueing_at-mono p q (queueing_at p q from) from (omega (arith, lt)) in
    absurd (omega (arith, lt, below (queueing_at p q from) again)))
    (λ (le : from ≤ queueing_at p q from). le)
    (cases_lt (queueing_at p q from) from)

-- an instance of a busy time has a wait within it
pub has_wait : (p : StreamPlace) (t q limit : ℕ) → p.index < length p.streams → IsBusyTime p t → t ≤ limit → IsQueuedWithin p t q → ((w : ℕ) → IsLeastSolution (queueing_at p q) 0 w → limit < w) → ⊥
has_wait p t q limit inside busy within queued none =
    let w = wait_exists_at p t q inside busy queued in
    omega (arith, none w.0 w.1, w.2, within)

-- the next instance waits at least until this one is sent
pub next_from : (p : StreamPlace) (s : Stream) (q w cost : ℕ) → slice_get p.streams p.index ≡ Some s → cost ≡ cost_of p.rate s → IsLeastSolution (queueing_at p q) 0 w → IsBelowWait p (q + 1) (w + cost)
next_from p s q w cost is c least =
    let e : cost_at p ≡ cost = rw is (sym c) in
    subst (λ (n : ℕ). IsBelowWait p (q + 1) (w + n)) e (next_below p q w (wait_below p q w least))

-- the busy equation does not fall there either
pub busy_rises : (p : StreamPlace) (from : ℕ) → p.index < length p.streams → 1 ≤ from → IsBelowBusy p from → from ≤ busy_at p from
busy_rises p from inside start below = ⊎_elim
    (λ (lt : busy_at p from < from).
    let some : 1 ≤ busy_at p from = omega (arith, busy_at_pos p inside, busy_at-mono p 1 from start) in
    let again : busy_at p (busy_at p from) ≤ busy_at p from = busy_at-mono p (busy_at p from) from (omega (arith, lt)) in
    absurd (omega (arith, lt, below (busy_at p from) some again)))
    (λ (le : from ≤ busy_at p from). le)
    (cases_lt (busy_at p from) from)
