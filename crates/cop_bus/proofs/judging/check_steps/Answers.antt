use Rattle.std.proofs.Common.{◌≡◌, ◌<◌, ◌+◌, ◌∙◌, suc, drop, refl, subst, sym, ap, arith, inl, inr, List, Option, Some, None, length, cond, nat_lt}
use Rattle.std.specs.BTreeSet.{BTreeSet, contains}
use Rattle.std.specs.Ordering.{nat_cmp}
use Rattle.std.specs.Prelude.{ℕ, slice_index, All, ◌≤◌}
use Rattle.std.proofs.lemmas.List.Elements.{All-from_recursion, All-contains, All-weaker}
use Rattle.cop_bus.specs.declared.steps.Step.TheVariants.{Queue, Start, End}
use Rattle.cop_rta.specs.declared.streams.Stream.{Stream}
use Rattle.cop_bus.specs.declared.steps.Step.{Step}
use Rattle.cop_bus.specs.Trace.{step_at, after, running}
use Rattle.cop_bus.specs.Judge.{id_of, at_step, broken_at_end, first_broken, first_broken_from}
use Rattle.cop_bus.specs.Tables.{AreSyncs, IsWaiting, IsUnsent, IsLinked, IsLast, is_queue_or_start, unsent_after}
use Rattle.cop_bus.proofs.Totals.{Each-from_Contains}
use Rattle.std.proofs.lemmas.List.{length-set}
use Rattle.cop_rta.specs.Test.{sync_id}
use Rattle.cop_bus.specs.Ends.{is_end}
use Rattle.cop_bus.proofs.StepLemmas.{bool_cases}
use Rattle.cop_bus.proofs.SyncTable.{count_to-upto}
use Rattle.cop_bus.proofs.Places.{unsent-step, last-step}
use Rattle.cop_bus.proofs.Sent.{linked-start, linked-step, linked-all}
use Rattle.cop_bus.proofs.Waits.{has-none, waiting-start, waiting-step}
use Rattle.cop_bus.proofs.Verdict.{at-end, keeps, start-has, not-here}
use Rattle.cop_bus.proofs.judging.check_steps.Goals as goal

-- no step changes how many places there are
unsent-long : (x : Step) (links unsent : List ℕ) → length (unsent_after x links unsent) ≡ length unsent
unsent-long (Start id at) links unsent = length-set unsent id (slice_index links (slice_index unsent id))
unsent-long (Queue id at event frame) links unsent = refl
unsent-long (End id at) links unsent = refl

pub loop-i-init : goal.loop-i-init
loop-i-init c = record {
  transfer = refl;
  tables = record {
    last = c.in_ok-no_events.ensures c.args.steps.now;
    unsent = c.in_ok-linked.ensures.first;
    waiting = waiting-start c.args.streams.now c.args.steps.now c.new.result (has-none c.new.result (λ l. let e = c.new.ensures.len in omega (arith, e)));
    syncs = All-from_recursion (λ k. 1 ≤ k.every → AreSyncs c.args.ticks c.args.steps.now 0 c.new-2.result) c.args.streams.now
        (Each-from_Contains (λ k. 1 ≤ k.every → AreSyncs c.args.ticks c.args.steps.now 0 c.new-2.result) c.args.streams.now (λ k i l. c.new-2.ensures c.args.ticks c.args.steps.now));
  };
  links = linked-start c.args.steps.now c.in_ok-linked.linked.next.items c.in_ok-linked.ensures.next;
  none_yet = refl;
}

pub note_sync-requires-clause-number : goal.note_sync-requires-clause-number
note_sync-requires-clause-number c = λ is.
    let a = c.is_any_synchronous-is_synced.ensures.some is in
    let steps = c.args.steps.now in
    let s = All-contains (λ k. 1 ≤ k.every → AreSyncs c.args.ticks steps c.loop-i.i c.loop-i.tables.syncs) c.streams.result.now a.1 (subst (All (λ k. 1 ≤ k.every → AreSyncs c.args.ticks steps c.loop-i.i c.loop-i.tables.syncs)) (sym c.streams.ensures.items) c.loop-i.invariant.tables.syncs) (a.0, a.2, a.3) a.4 in
    let u = count_to-upto (is_end sync_id) steps c.loop-i.i in
    omega (arith, s.number, u, c.loop-i.links.small, c.loop-i.links.ok.0, c.loop-i.links.ok.1, c.loop-i.invariant.links.steps_long, c.loop-i-test.true)

-- what is broken at the end, after all steps
at_end : (ticks until : ℕ) (streams : List Stream) (steps : List Step) (i : ℕ) (waiting : BTreeSet ℕ) (run : Option (ℕ × ℕ)) (result : Option ℕ) → i ≡ length steps →
    ((streams : List Stream) (ticks : ℕ) → IsWaiting streams steps (length steps) waiting → run ≡ running ticks steps (length steps) → result ≡ broken_at_end ticks streams until steps) →
    IsWaiting streams steps i waiting → run ≡ running ticks steps i → first_broken_from ticks streams until steps i (drop i steps) ≡ first_broken ticks streams until steps →
    first_broken ticks streams until steps ≡ at_step (length steps) result None
at_end ticks until streams steps i waiting run result e h w r f =
    let o = h streams ticks (subst (λ n. IsWaiting streams steps n waiting) e w) (r ∙ ap (running ticks steps) e) in
    at-end ticks streams until steps (subst (λ n. first_broken_from ticks streams until steps n (drop n steps) ≡ first_broken ticks streams until steps) e f) ∙ ap (λ v. at_step (length steps) v None) (sym o)

pub returns-in-Some-broken_at_end-clause-err : goal.returns-in-Some-broken_at_end-clause-err
returns-in-Some-broken_at_end-clause-err c =
    let t = at_end c.args.ticks c.args.until c.args.streams.now c.args.steps.now c.loop-i.i c.loop-i.tables.waiting c.loop-i.running c.broken_at_end.result (omega (arith, c.loop-i-test.false, c.loop-i.auto.i-end))
    c.broken_at_end.ensures c.loop-i.invariant.tables.waiting c.loop-i.invariant.transfer c.loop-i.invariant.none_yet in
    let n : suc (length c.args.steps.now) ≡ length c.args.steps.now + 1 = omega arith in
    t ∙ ap (λ o. at_step (length c.args.steps.now) o None) c.in-Some-broken_at_end.is ∙ ap (λ k. Some (k, c.in-Some-broken_at_end.number)) n

pub returns-in-None-broken_at_end-clause-ok : goal.returns-in-None-broken_at_end-clause-ok
returns-in-None-broken_at_end-clause-ok c =
    let t = at_end c.args.ticks c.args.until c.args.streams.now c.args.steps.now c.loop-i.i c.loop-i.tables.waiting c.loop-i.running c.broken_at_end.result (omega (arith, c.loop-i-test.false, c.loop-i.auto.i-end))
    c.broken_at_end.ensures c.loop-i.invariant.tables.waiting c.loop-i.invariant.transfer c.loop-i.invariant.none_yet in
    t ∙ ap (λ o. at_step (length c.args.steps.now) o None) c.in-None-broken_at_end.is

pub returns-in-None-broken_at_end-clause-sent : goal.returns-in-None-broken_at_end-clause-sent
returns-in-None-broken_at_end-clause-sent c = linked-all c.args.steps.now c.loop-i.i c.loop-i.links.items (omega (arith, c.loop-i-test.false, c.loop-i.auto.i-end)) c.loop-i.invariant.links

pub send-requires-clause-some : goal.send-requires-clause-some
send-requires-clause-some c at id e =
    let steps = c.args.steps.now in
    let b = sym c.in-None.ensures.least in
    let f : id < 65536 = subst (λ x. id_of x < 65536) e c.in-None.ensures.fits in
    let s = start-has c.args.ticks c.args.streams.now c.args.until steps c.loop-i.i c.loop-i.tables.unsent.items (step_at steps c.loop-i.i) at id b e f c.loop-i.invariant.tables.unsent in
    omega (arith, s, c.loop-i.invariant.links.steps_long)

pub loop-i-preserved : goal.loop-i-preserved
loop-i-preserved c =
    let steps = c.args.steps.now in
    let i = c.loop-i.i in
    let x = step_at steps i in
    let h = c.loop-i.invariant in
    let b = sym c.in-None.ensures.least in
    let n : suc i ≡ i + 1 = omega arith in
    let has : (at id : ℕ) → x ≡ Start id at → slice_index c.loop-i.tables.unsent.items id < length steps =
    λ at id e. start-has c.args.ticks c.args.streams.now c.args.until steps c.loop-i.i c.loop-i.tables.unsent.items x at id b e (subst (λ y. id_of y < 65536) e c.in-None.ensures.fits) h.tables.unsent in
    let last = last-step steps i c.loop-i.tables.last.items x refl c.in-None.ensures.fits h.tables.last in
    let unsent = unsent-step steps i c.loop-i.links.items c.loop-i.tables.unsent.items x c.loop-i-test.true refl c.in-None.ensures.fits has h.links h.tables.unsent in
    let links = linked-step steps i c.loop-i.tables.unsent.items c.loop-i.links.items x c.loop-i-test.true refl c.in-None.ensures.fits has h.tables.unsent h.links in
    let waiting = waiting-step c.args.streams.now steps i c.deref-in-loop-i-2.result.now c.loop-i.tables.waiting c.note_waiting.new.waiting c.loop-i-test.true c.in-None.ensures.fits
    (keeps c.args.ticks c.args.streams.now c.args.until steps i x b).known
    (subst (IsUnsent steps (suc i)) (sym (c.deref-in-loop-i-2.ensures.value ∙ c.send.ensures.unsent)) unsent)
    (λ k. c.in_ok-note_waiting.ensures k ∙ ap (λ m. cond (is_queue_or_start k x) (nat_lt (slice_index c.deref-in-loop-i-2.result.now k) m) (contains nat_cmp c.loop-i.tables.waiting k)) (sym n)) h.tables.waiting in
    let syncs : All (λ k. 1 ≤ k.every → AreSyncs c.args.ticks steps (i + 1) c.note_sync.new.syncs) c.args.streams.now = elim (bool_cases c.is_any_synchronous-is_synced.result) [
      | inl is ↦ All-weaker (λ k. 1 ≤ k.every → AreSyncs c.args.ticks steps i c.loop-i.tables.syncs) (λ k. 1 ≤ k.every → AreSyncs c.args.ticks steps (i + 1) c.note_sync.new.syncs)
          (λ k f l. subst (λ k. AreSyncs c.args.ticks steps k c.note_sync.new.syncs) n (c.in_ok-note_sync.ensures c.args.ticks c.args.streams.now c.args.until is b (f l))) c.args.streams.now h.tables.syncs
      | inr is ↦ All-weaker (λ k. k.every ≡ 0) (λ k. 1 ≤ k.every → AreSyncs c.args.ticks steps (i + 1) c.note_sync.new.syncs) (λ k e l. absurd (omega (arith, e, l))) c.args.streams.now
          (subst (All (λ k. k.every ≡ 0)) c.streams.ensures.items (c.is_any_synchronous-is_synced.ensures.none is))
    ] in
    record {
      transfer = c.note_transfer.ensures ∙ ap (after c.args.ticks steps i x) h.transfer ∙ ap (running c.args.ticks steps) n;
      tables = record {
        last = subst (λ k. IsLast steps k c.note_event.new.last.items) n (subst (IsLast steps (suc i)) (sym c.note_event.ensures) last);
        unsent = subst (λ k. IsUnsent steps k c.send.new.unsent.items) n (subst (IsUnsent steps (suc i)) (sym c.send.ensures.unsent) unsent);
        waiting = subst (λ k. IsWaiting c.args.streams.now steps k c.note_waiting.new.waiting) n waiting;
        syncs = syncs;
      };
      links = subst (λ k. IsLinked steps k c.send.new.links.items) n (subst (IsLinked steps (suc i)) (sym c.send.ensures.links) links);
      none_yet = subst (λ k. first_broken_from c.args.ticks c.args.streams.now c.args.until steps k (drop k steps) ≡ first_broken c.args.ticks c.args.streams.now c.args.until steps) n
          (not-here c.args.ticks c.args.streams.now c.args.until steps i c.loop-i-test.true h.none_yet (sym b));
    }

pub note_waiting-requires : goal.note_waiting-requires
note_waiting-requires c =
    ap length (c.deref-in-loop-i-2.ensures.value ∙ c.send.ensures.unsent) ∙ unsent-long (step_at c.args.steps.now c.loop-i.i) c.loop-i.links.items c.loop-i.tables.unsent.items ∙ c.loop-i.invariant.tables.unsent.ids
