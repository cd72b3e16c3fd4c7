-- What the instances of a run hang on: where SYNC's events rise, one thing each. Of a trace that breaks no other rule it is what its steps have.
use Rattle.std.proofs.Common.{◌≡◌, ◌∙◌, ℕ, ◌+◌, ◌*◌, ◌≤◌, inl, inr, List, get_or, slice_get, Some, refl, sym, ap, arith, true}
use Rattle.std.specs.Prelude.{Contains, All, filter, ◌==◌}
use Rattle.std.proofs.lemmas.Bool.{cases_lt, cases_order}
use Rattle.std.proofs.lemmas.List.{get_or_default}
use Rattle.std.proofs.lemmas.List.Elements.{All-contains}
use Rattle.cop_rta.specs.declared.streams.Stream.{Stream}
use Rattle.cop_rta.specs.Test.{sync_id}
use Rattle.cop_bus.specs.declared.anchors.Anchor.{Anchor}
use Rattle.cop_bus.specs.declared.steps.Step.{Step}
use Rattle.cop_bus.specs.Run.{Instance, IsKnown, IsSync, IsAnchor, IsObeying}
use Rattle.cop_bus.specs.Trace.{instances}
use Rattle.cop_bus.specs.Ends.{anchor_of}
use Rattle.cop_bus.proofs.Totals.{Pairs, Pairs-from_AllPairs}
use Rattle.cop_bus.proofs.Numbered.{Pairs-kept, numbers_apart}
use Rattle.cop_bus.proofs.Indexed.{Obeys}
use Rattle.cop_bus.proofs.Work.{true-eq}
use Rattle.cop_bus.proofs.SyncEnds.{ended_is_sync}
use Rattle.cop_bus.proofs.AnchorLemmas.{own_anchor, same_anchor, anchor_async, anchor_ended, gap-async}

-- the events of SYNC's instances rise
abbrev pub AreRising : List Instance → Type 0
AreRising run = Pairs (λ y z. (y.id == sync_id) ≡ true → (z.id == sync_id) ≡ true → y.event + 1 ≤ z.event) run

-- a stream with an identifier as low as SYNC's is not synchronous
pub low_is_async : (k : Stream) → k.id ≤ sync_id → k.every ≡ 0
low_is_async k l = elim (cases_lt 0 k.every) [ inl s ↦ absurd (let h = k.synchronous_id s in omega (arith, h, l)) | inr z ↦ omega arith ]

module _ (tau until : ℕ) (run : List Instance) where
  -- an instance of a stream that is not synchronous hangs on its event
  pub hangs_on_event : (k : Stream) (y : Instance) → k.every ≡ 0 → IsAnchor tau until run k y (own_anchor y.event)
  hangs_on_event k y async = record { by_event = λ a. (refl, refl); by_sync = λ s. absurd (omega (arith, s, async)) }

  -- SYNC's instances are numbered by their events
  pub one_sync : AreRising run → (a b event ended ended' : ℕ) → IsSync tau until run a event ended → IsSync tau until run b event ended' → (a ≡ b) × (ended ≡ ended')
  one_sync rising a b event ended ended' y z =
      let kept = Pairs-kept (λ y. y.id == sync_id) (λ y z. y.event + 1 ≤ z.event) run rising in
      elim (cases_order a b) [
        | inr (inl l) ↦ absurd (let n = numbers_apart 1 (filter (λ y. y.id == sync_id) run) a b y.sync z.sync kept l y.here z.here in omega (arith, n, l, y.event_is, z.event_is))
        | inr (inr l) ↦ absurd (let n = numbers_apart 1 (filter (λ y. y.id == sync_id) run) b a z.sync y.sync kept l z.here y.here in omega (arith, n, l, y.event_is, z.event_is))
        | inl e ↦ (let same : Some y.sync ≡ Some z.sync = sym y.here ∙ ap (slice_get (filter (λ y. y.id == sync_id) run)) e ∙ z.here in
            let one : y.sync ≡ z.sync = cc in
            let start : Some y.start ≡ Some z.start = sym y.starts ∙ ap (λ y. y.start) one ∙ z.starts in
            let s : y.start ≡ z.start = cc in
            let work : y.sync.bits * tau ≡ z.sync.bits * tau = ap (λ y. y.bits * tau) one in
            (e, omega (arith, s, work, y.ends, z.ends)))
      ]

  -- so an instance hangs on one thing
  pub one_anchor : AreRising run → (k : Stream) (y : Instance) (d e : Anchor) → IsAnchor tau until run k y d → IsAnchor tau until run k y e → (d.mark ≡ e.mark) × (d.from ≡ e.from)
  one_anchor rising k y d e f g = elim (cases_lt 0 k.every) [
    | inl s ↦ one_sync rising d.mark e.mark y.event d.from e.from (f.by_sync s) (g.by_sync s)
    | inr z ↦ (let async : k.every ≡ 0 = omega arith in let u = f.by_event async in let v = g.by_event async in (omega (arith, u.0, v.0), omega (arith, u.1, v.1)))
  ]

  -- where the streams obey, SYNC's events rise
  pub rising : (streams : List Stream) → All (IsKnown streams) run → All (IsObeying tau until run) streams → AreRising run
  rising streams known obeying = Pairs-from_AllPairs (λ y z. (y.id == sync_id) ≡ true → (z.id == sync_id) ≡ true → y.event + 1 ≤ z.event) run (λ i j d l h e f.
      let y : Instance = get_or run i d in
      let z : Instance = get_or run j d in
      let y_is : y.id ≡ sync_id = true-eq y.id sync_id e in
      let z_is : z.id ≡ sync_id = true-eq z.id sync_id f in
      let c : Contains run y = (i, omega arith, get_or_default run i y d (omega arith)) in
      let s = (All-contains (IsKnown streams) run y known c).some_stream in
      let k : Stream = s.1 in
      let its : k.id ≡ y.id = s.4 in
      let async = low_is_async k (omega (arith, its, y_is)) in
      let o = All-contains (IsObeying tau until run) streams k obeying (s.0, s.2, s.3) in
      let far = (o.in_order i j d l h (sym its) (z_is ∙ sym y_is ∙ sym its)).far (own_anchor y.event) (own_anchor z.event) (hangs_on_event k y async) (hangs_on_event k z async) in
      let gap = gap-async k async in
      let least = k.period_least in
      omega (arith, far, gap, least))

-- what is found for a step of a trace is what its instance hangs on
pub anchor_is : (tau : ℕ) (streams : List Stream) (until : ℕ) (steps : List Step) → 1 ≤ tau → Obeys tau streams until steps → (k : Stream) (i : ℕ) (y : Instance) (e : Anchor) →
    anchor_of k steps i y.event ≡ Some e → IsAnchor tau until (instances steps) k y e
anchor_is tau streams until steps tick obeys k i y e h = record {
  by_event = λ async. (let s = same_anchor (own_anchor y.event) e (sym (anchor_async k steps i y.event async) ∙ h) in (sym (ap (λ e. e.mark) s), sym (ap (λ e. e.from) s)));
  by_sync = λ l. ended_is_sync tau streams until steps tick obeys i e.mark y.event e.from (anchor_ended k steps i y.event e l h);
}
