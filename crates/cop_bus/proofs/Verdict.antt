use Rattle.std.proofs.Common.{◌≡◌, ℕ, ◌+◌, ◌<◌, List, [], ◌∷◌, length, refl, sym, ◌∙◌, ap, arith, suc, zero, Bool, true, false, cond, not, drop}
use Rattle.std.specs.Prelude.{Option, None, Some, is_some, slice_index, if◌then◌else◌}
use Rattle.cop_rta.specs.declared.streams.Stream.{Stream}
use Rattle.cop_bus.specs.declared.steps.Step.{Step}
use Rattle.cop_bus.specs.declared.steps.Step.TheVariants.{Start}
use Rattle.cop_bus.specs.Trace.{is_queue, is_start, count_to, nth_that, step_at, running, at_of}
use Rattle.cop_bus.specs.Judge.{id_of, stream_of, last_event, is_in_order, is_period_later, is_queued_in_time, is_of_length, fits_transfer, has_one_to_send, is_lowest, is_not_idle, broken_in_turn, broken_by, broken_at_end, at_step, first_broken_from, first_broken, any_waits, is_soon_queued}
use Rattle.cop_bus.specs.Tables.{IsUnsent}
use Rattle.cop_bus.proofs.Demand.{and-right}
use Rattle.cop_bus.proofs.Work.{true-lt}
use Rattle.cop_bus.proofs.Places.{sends-some}

pub drop-at : (steps : List Step) (i : ℕ) → i < length steps → drop i steps ≡ step_at steps i ∷ drop (suc i) steps
drop-at [] i l = absurd (omega arith)
drop-at (x ∷ xs) zero l = refl
drop-at (x ∷ xs) (suc i) l = drop-at xs i (omega arith)

pub drop-all : (steps : List Step) → drop (length steps) steps ≡ []
drop-all [] = refl
drop-all (x ∷ xs) = drop-all xs

pub not-here : (tau : ℕ) (streams : List Stream) (until : ℕ) (steps : List Step) (i : ℕ) → i < length steps →
    first_broken_from tau streams until steps i (drop i steps) ≡ first_broken tau streams until steps → None ≡ broken_by tau streams until steps i (step_at steps i) →
    first_broken_from tau streams until steps (suc i) (drop (suc i) steps) ≡ first_broken tau streams until steps
not-here tau streams until steps i l h e =
    sym (ap (first_broken_from tau streams until steps i) (drop-at steps i l) ∙ ap (λ o. at_step i o (first_broken_from tau streams until steps (suc i) (drop (suc i) steps))) (sym e)) ∙ h

pub at-end : (tau : ℕ) (streams : List Stream) (until : ℕ) (steps : List Step) →
    first_broken_from tau streams until steps (length steps) (drop (length steps) steps) ≡ first_broken tau streams until steps →
    first_broken tau streams until steps ≡ at_step (length steps) (broken_at_end tau streams until steps) None
at-end tau streams until steps h = sym h ∙ ap (first_broken_from tau streams until steps (length steps)) (drop-all steps)

-- a test that is passed, and what comes after it
pub passed : (b : Bool) (n : ℕ) (o : Option ℕ) → cond (not b) (Some n) o ≡ None → (b ≡ true) × (o ≡ None)
passed true n o h = (refl, h)
passed false n o h = absurd (cc)

-- A step that breaks no rule passes each test.
pub record Keeps (tau : ℕ) (streams : List Stream) (until : ℕ) (steps : List Step) (i : ℕ) (x : Step) : Type 0 where
  pub order : is_in_order until steps i x ≡ true
  pub known : is_some (stream_of streams (id_of x)) ≡ true
  pub period : is_period_later (stream_of streams (id_of x)) (last_event (id_of x) steps i) steps i x ≡ true
  pub in_time : is_queued_in_time (stream_of streams (id_of x)) steps i x ≡ true
  pub of_length : is_of_length (stream_of streams (id_of x)) x ≡ true
  pub transfer : fits_transfer (running tau steps i) x ≡ true
  pub to_send : has_one_to_send tau streams steps i x ≡ true
  pub lowest : is_lowest streams steps i x ≡ true
  pub not_idle : is_not_idle streams steps i (running tau steps i) (at_of x) ≡ true

pub keeps : (tau : ℕ) (streams : List Stream) (until : ℕ) (steps : List Step) (i : ℕ) (x : Step) → broken_by tau streams until steps i x ≡ None → Keeps tau streams until steps i x
keeps tau streams until steps i x h =
    let a = passed (is_in_order until steps i x) 60 _ h in
    let b = passed (is_some (stream_of streams (id_of x))) 61 _ a.1 in
    let c = passed (is_period_later (stream_of streams (id_of x)) (last_event (id_of x) steps i) steps i x) 62 _ b.1 in
    let d = passed (is_queued_in_time (stream_of streams (id_of x)) steps i x) 63 _ c.1 in
    let e = passed (is_of_length (stream_of streams (id_of x)) x) 64 _ d.1 in
    let f = passed (fits_transfer (running tau steps i) x) 65 _ e.1 in
    let g = passed (has_one_to_send tau streams steps i x) 66 _ f.1 in
    let j = passed (is_lowest streams steps i x) 67 _ g.1 in
    let k = passed (is_not_idle streams steps i (running tau steps i) (at_of x)) 68 _ j.1 in
    record { order = a.0; known = b.0; period = c.0; in_time = d.0; of_length = e.0; transfer = f.0; to_send = g.0; lowest = j.0; not_idle = k.0 }

pub soon-some : (tau at : ℕ) (o : Option Step) → is_soon_queued tau at o ≡ true → (x : Step) × (o ≡ Some x) × (at_of x < at + tau)
soon-some tau at None h = absurd (cc)
soon-some tau at (Some x) h = (x, refl, true-lt (at_of x) (at + tau) h)

-- so at a start there is an instance to send
pub start-has : (tau : ℕ) (streams : List Stream) (until : ℕ) (steps : List Step) (i : ℕ) (unsent : List ℕ) (x : Step) (at id : ℕ) → broken_by tau streams until steps i x ≡ None →
    x ≡ Start id at → id < 65536 → IsUnsent steps i unsent → slice_index unsent id < length steps
start-has tau streams until steps i unsent x at id h e f u =
    let k = keeps tau streams until steps i x h in
    let b = sym (ap (has_one_to_send tau streams steps i) e) ∙ k.to_send in
    let s = soon-some tau at (nth_that (is_queue id) (count_to (is_start id) steps i) steps) (and-right (any_waits steps i streams) _ b) in
    sends-some steps i unsent id s.0 f u s.1

-- The least rule that is broken, by the tests that the step passes before it.
step-on : (b : Bool) (n : ℕ) (o : Option ℕ) → b ≡ true → cond (not b) (Some n) o ≡ o
step-on b n o e = ap (λ b. cond (not b) (Some n) o) e

stop-at : (b : Bool) (n : ℕ) (o : Option ℕ) → b ≡ false → cond (not b) (Some n) o ≡ Some n
stop-at b n o e = ap (λ b. cond (not b) (Some n) o) e

module _ (tau : ℕ) (streams : List Stream) (until : ℕ) (steps : List Step) (i : ℕ) (x : Step) (order : is_in_order until steps i x ≡ true) (known : is_some (stream_of streams (id_of x)) ≡ true) where
  to-62 : broken_by tau streams until steps i x ≡ (if not (is_period_later (stream_of streams (id_of x)) (last_event (id_of x) steps i) steps i x) then Some 62 else
      if not (is_queued_in_time (stream_of streams (id_of x)) steps i x) then Some 63 else
      if not (is_of_length (stream_of streams (id_of x)) x) then Some 64 else
      broken_in_turn tau streams steps i (running tau steps i) x)
  to-62 = step-on (is_in_order until steps i x) 60 _ order ∙ step-on (is_some (stream_of streams (id_of x))) 61 _ known

  pub broken-62 : is_period_later (stream_of streams (id_of x)) (last_event (id_of x) steps i) steps i x ≡ false → broken_by tau streams until steps i x ≡ Some 62
  broken-62 period = to-62 ∙ stop-at (is_period_later (stream_of streams (id_of x)) (last_event (id_of x) steps i) steps i x) 62 _ period

  pub broken-63 : is_period_later (stream_of streams (id_of x)) (last_event (id_of x) steps i) steps i x ≡ true → is_queued_in_time (stream_of streams (id_of x)) steps i x ≡ false → broken_by tau streams until steps i x ≡ Some 63
  broken-63 period time = to-62 ∙ step-on (is_period_later (stream_of streams (id_of x)) (last_event (id_of x) steps i) steps i x) 62 _ period ∙ stop-at (is_queued_in_time (stream_of streams (id_of x)) steps i x) 63 _ time

  pub broken-64 : is_period_later (stream_of streams (id_of x)) (last_event (id_of x) steps i) steps i x ≡ true → is_queued_in_time (stream_of streams (id_of x)) steps i x ≡ true → is_of_length (stream_of streams (id_of x)) x ≡ false →
      broken_by tau streams until steps i x ≡ Some 64
  broken-64 period time long = to-62 ∙ step-on (is_period_later (stream_of streams (id_of x)) (last_event (id_of x) steps i) steps i x) 62 _ period ∙ step-on (is_queued_in_time (stream_of streams (id_of x)) steps i x) 63 _ time
      ∙ stop-at (is_of_length (stream_of streams (id_of x)) x) 64 _ long

  pub broken-later : is_period_later (stream_of streams (id_of x)) (last_event (id_of x) steps i) steps i x ≡ true → is_queued_in_time (stream_of streams (id_of x)) steps i x ≡ true → is_of_length (stream_of streams (id_of x)) x ≡ true →
      broken_by tau streams until steps i x ≡ broken_in_turn tau streams steps i (running tau steps i) x
  broken-later period time long = to-62 ∙ step-on (is_period_later (stream_of streams (id_of x)) (last_event (id_of x) steps i) steps i x) 62 _ period ∙ step-on (is_queued_in_time (stream_of streams (id_of x)) steps i x) 63 _ time
      ∙ step-on (is_of_length (stream_of streams (id_of x)) x) 64 _ long
