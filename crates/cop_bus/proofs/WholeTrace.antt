-- A trace breaks no rule exactly where it is that of a legal run in which all streams obey.
use Rattle.std.proofs.Common.{◌≡◌, ◌∙◌, ◌↔◌, ℕ, ◌+◌, ◌≤◌, ◌<◌, List, length, sym, ap, arith, true}
use Rattle.std.specs.Prelude.{None, Some, All, Contains, ◌==◌}
use Rattle.std.proofs.lemmas.List.Elements.{All-from_recursion, All-contains}
use Rattle.cop_rta.specs.declared.streams.Stream.{Stream}
use Rattle.cop_rta.specs.Test.{sync_id}
use Rattle.cop_rta.specs.Streams.{AreDistinct}
use Rattle.cop_frame.specs.declared.rates.Rate.{Rate}
use Rattle.cop_frame.specs.Rate.{ticks_of}
use Rattle.cop_rta.proofs.QueueLemmas.{ticks_pos}
use Rattle.cop_bus.specs.declared.anchors.Anchor.{Anchor}
use Rattle.cop_bus.specs.declared.steps.Step.{Step}
use Rattle.cop_bus.specs.declared.steps.Content.{Content}
use Rattle.cop_bus.specs.declared.steps.Step.TheVariants.{Queue}
use Rattle.cop_bus.specs.Run.{IsAnchor, IsQueuedInTime, ComesBefore, IsObeying, gap_of}
use Rattle.cop_bus.specs.Trace.{step_at, instance, instances, IsLegalTrace}
use Rattle.cop_bus.specs.Ends.{anchor_of}
use Rattle.cop_bus.specs.Judge.{stream_of, first_broken}
use Rattle.cop_bus.proofs.Totals.{Each-from_Contains, AllPairs-from_Pairs}
use Rattle.cop_bus.proofs.Work.{true-eq}
use Rattle.cop_bus.proofs.Indexed.{Obeys, IsTraceOf}
use Rattle.cop_bus.proofs.StepLemmas.{each_instance, pairs_instances, in-steps}
use Rattle.cop_bus.proofs.AnchorLemmas.{own_anchor, same_anchor, anchor_async, gap-async}
use Rattle.cop_bus.proofs.Hanging.{AreRising, low_is_async, one_anchor, anchor_is}
use Rattle.cop_bus.proofs.Judged as Judged
use Rattle.cop_bus.proofs.Converse as Converse
use Rattle.cop_bus.proofs.Accepts as Accepts
use Rattle.cop_bus.proofs.Found.{accepted}

-- the streams of a trace that breaks no rule obey
module _ (tau : ℕ) (streams : List Stream) (until : ℕ) (steps : List Step) (tick : 1 ≤ tau) (distinct : AreDistinct streams) (h : first_broken tau streams until steps ≡ None) where
  ok : Obeys tau streams until steps
  ok = Accepts.obeys tau streams until steps distinct h

  -- two steps of one stream
  marks : (a q id event : ℕ) (frame : Content) (b q' event' : ℕ) (frame' : Content) → a < b → b < length steps → step_at steps a ≡ Queue id q event frame → step_at steps b ≡ Queue id q' event' frame' →
      (k : Stream) × (stream_of streams id ≡ Some k) × (d e : Anchor) × (anchor_of k steps a event ≡ Some d) × (anchor_of k steps b event' ≡ Some e) × (d.mark + gap_of k ≤ e.mark)
  marks a q id event frame b q' event' frame' l m f g =
      let v = Accepts.hangs tau streams until steps distinct h a q id event frame (omega arith) f in
      let w = Accepts.hangs tau streams until steps distinct h b q' id event' frame' m g in
      let same : w.0 ≡ v.0 = Accepts.same_stream w.0 v.0 (sym w.1 ∙ v.1) in
      let there : anchor_of v.0 steps b event' ≡ Some w.2 = ap (λ k. anchor_of k steps b event') (sym same) ∙ w.3 in
      (v.0, v.1, v.2, w.2, v.3, there, Accepts.far-apart tau streams until steps distinct h a b q q' id event event' frame frame' l m f g v.0 v.1 v.2 w.2 v.3 there)

  rises : AreRising (instances steps)
  rises = pairs_instances steps 0 steps (in-steps steps) (λ y z. (y.id == sync_id) ≡ true → (z.id == sync_id) ≡ true → y.event + 1 ≤ z.event) (λ a q id event frame b q' id' event' frame' l m f g s t.
      let is : id ≡ sync_id = true-eq id sync_id s in
      let same : id' ≡ id = true-eq id' sync_id t ∙ sym is in
      let w = marks a q id event frame b q' event' frame' l (omega arith) f (g ∙ ap (λ n. Queue n q' event' frame') same) in
      let k : Stream = w.0 in
      let its = (Accepts.stream-found streams id k w.1).1 in
      let async = low_is_async k (omega (arith, its, is)) in
      let d = ap (λ e. e.mark) (same_anchor (own_anchor event) w.2 (sym (anchor_async k steps a event async) ∙ w.4)) in
      let e = ap (λ e. e.mark) (same_anchor (own_anchor event') w.3 (sym (anchor_async k steps b event' async) ∙ w.5)) in
      let far = w.6 in
      let gap = gap-async k async in
      let least = k.period_least in
      omega (arith, d, e, far, gap, least))

  in_time : (k : Stream) → Contains streams k → All (λ y. y.id ≡ k.id → IsQueuedInTime tau until (instances steps) k y) (instances steps)
  in_time k c = All-from_recursion (λ y. y.id ≡ k.id → IsQueuedInTime tau until (instances steps) k y) (instances steps) (each_instance steps 0 steps (in-steps steps) (λ y. y.id ≡ k.id → IsQueuedInTime tau until (instances steps) k y)
      (λ a at id event frame l m e its.
      let w = Accepts.hangs tau streams until steps distinct h a at id event frame (omega arith) e in
      let y = instance steps a at id event frame in
      All-contains (λ s. s.id ≡ id → IsQueuedInTime tau until (instances steps) s y) streams k
      (Accepts.of-found streams id w.0 (λ s. IsQueuedInTime tau until (instances steps) s y) distinct w.1
      (record { anchor = w.2; is_anchor = anchor_is tau streams until steps tick ok w.0 a y w.2 w.3; after_anchor = w.4; within_jitter = w.5 })) c (sym its)))

  in_order : (k : Stream) → Contains streams k → (a q id event : ℕ) (frame : Content) (b q' id' event' : ℕ) (frame' : Content) → a < b → b < 0 + length steps → step_at steps a ≡ Queue id q event frame → step_at steps b ≡ Queue id' q' event' frame' →
      id ≡ k.id → id' ≡ k.id → ComesBefore tau until (instances steps) k (instance steps a q id event frame) (instance steps b q' id' event' frame')
  in_order k c a q id event frame b q' id' event' frame' l m f g its its' =
      let y = instance steps a q id event frame in
      let z = instance steps b q' id' event' frame' in
      let w = marks a q id event frame b q' event' frame' l (omega arith) f (g ∙ ap (λ n. Queue n q' event' frame') (its' ∙ sym its)) in
      record {
        far = All-contains (λ s. s.id ≡ id → (d e : Anchor) → IsAnchor tau until (instances steps) s y d → IsAnchor tau until (instances steps) s z e → d.mark + gap_of s ≤ e.mark) streams k
            (Accepts.of-found streams id w.0 (λ s. (d e : Anchor) → IsAnchor tau until (instances steps) s y d → IsAnchor tau until (instances steps) s z e → d.mark + gap_of s ≤ e.mark) distinct w.1
            (λ d e is_d is_e.
            let u = one_anchor tau until (instances steps) rises w.0 y d w.2 is_d (anchor_is tau streams until steps tick ok w.0 a y w.2 w.4) in
            let v = one_anchor tau until (instances steps) rises w.0 z e w.3 is_e (anchor_is tau streams until steps tick ok w.0 b z w.3 w.5) in
            let far = w.6 in
            omega (arith, u.0, v.0, far))) c (sym its);
        queued_first = Judged.queued_first tau streams until steps tick ok a q id event frame b q' id' event' frame' l (omega arith) f g;
      }

  pub obeying : All (IsObeying tau until (instances steps)) streams
  obeying = All-from_recursion (IsObeying tau until (instances steps)) streams (Each-from_Contains (IsObeying tau until (instances steps)) streams (λ k c. record {
    in_time = in_time k c;
    in_order = AllPairs-from_Pairs (λ y z. y.id ≡ k.id → z.id ≡ k.id → ComesBefore tau until (instances steps) k y z) (instances steps)
        (pairs_instances steps 0 steps (in-steps steps) (λ y z. y.id ≡ k.id → z.id ≡ k.id → ComesBefore tau until (instances steps) k y z) (in_order k c));
  }))

with_obeying : (tau : ℕ) (streams : List Stream) (until : ℕ) (steps : List Step) → IsTraceOf tau streams until steps → All (IsObeying tau until (instances steps)) streams → IsLegalTrace tau streams until steps
with_obeying tau streams until steps w o = record {
  ordered = w.ordered;
  by_end = w.by_end;
  no_more_starts = w.no_more_starts;
  ends_are = w.ends_are;
  each_end = w.each_end;
  ends_once = w.ends_once;
  legal = w.legal;
  obeying = o;
}

trace_of : (tau : ℕ) (streams : List Stream) (until : ℕ) (steps : List Step) → IsLegalTrace tau streams until steps → IsTraceOf tau streams until steps
trace_of tau streams until steps w = record {
  ordered = w.ordered;
  by_end = w.by_end;
  no_more_starts = w.no_more_starts;
  ends_are = w.ends_are;
  each_end = w.each_end;
  ends_once = w.ends_once;
  legal = w.legal;
}

pub clean-legal : (rate : Rate) (streams : List Stream) (until : ℕ) (steps : List Step) → AreDistinct streams →
    (first_broken (ticks_of rate) streams until steps ≡ None ↔ IsLegalTrace (ticks_of rate) streams until steps)
clean-legal rate streams until steps distinct = (
  λ h. with_obeying (ticks_of rate) streams until steps (Judged.legal_trace (ticks_of rate) streams until steps (ticks_pos rate) (Accepts.obeys (ticks_of rate) streams until steps distinct h))
      (obeying (ticks_of rate) streams until steps (ticks_pos rate) distinct h),
  λ h. accepted (ticks_of rate) streams until steps (ticks_pos rate) (Converse.obeys (ticks_of rate) streams until steps (ticks_pos rate) (trace_of (ticks_of rate) streams until steps h)) h.obeying,
)
