use Rattle.std.proofs.Common.{◌&&◌, ◌≡◌, ℕ, ◌+◌, ◌≤◌, ◌<◌, ◌⊎◌, inl, inr, List, [], ◌∷◌, length, refl, sym, ◌∙◌, ap, subst, arith, suc, zero, Bool, true, false, cond, not, drop, ◌||◌, nat_lt, nat_le}
use Rattle.std.specs.Prelude.{Option, None, Some, is_some, All, Any, ◌==◌}
use Rattle.std.proofs.lemmas.Bool.{cases_lt}
use Rattle.std.proofs.lemmas.List.Elements.{All-from_recursion, recursion_from_All, All-contains}
use Rattle.std.specs.List.{AllByRecursion as Each}
use Rattle.cop_rta.specs.declared.streams.Stream.{Stream}
use Rattle.cop_bus.specs.declared.steps.Step.{Step}
use Rattle.cop_bus.specs.declared.steps.Content.{Content}
use Rattle.cop_bus.specs.declared.steps.Step.TheVariants.{Queue, Start, End}
use Rattle.cop_bus.specs.declared.anchors.Anchor.{Anchor}
use Rattle.cop_bus.specs.Run.{least_bits, worst_bits, HasLengthOf, IsKnown, IsAnchor, IsQueuedInTime, ComesBefore, IsObeying, gap_of}
use Rattle.cop_bus.specs.Trace.{is_queue, is_start, count_to, nth_that, step_at, running, at_of, rank_of, instance, instances}
use Rattle.cop_bus.specs.Ends.{anchor_of}
use Rattle.cop_bus.proofs.Indexed.{WaitsAfter, Obeys}
use Rattle.cop_bus.specs.Judge.{id_of, stream_of, last_event, event_or, is_in_order, not_before, is_period_later, is_queued_in_time, is_of_length, fits_transfer, has_one_to_send, is_lowest, is_not_idle, broken_by, broken_at_end, at_step, first_broken_from, first_broken, any_waits, lower_waits, is_soon_queued, is_unfinished}
use Rattle.cop_bus.proofs.Demand.{and-true}
use Rattle.cop_bus.proofs.Work.{true-eq, eq-true, lt-true, le-true}
use Rattle.cop_bus.proofs.StepLemmas.{bool_cases, nth_before, queue_shape, nth_that-some, same_some, running_started, each_instance, instance_in, in-steps, pairs_at}
use Rattle.cop_bus.proofs.AnchorLemmas.{own_anchor, anchor_async, ended_anchor, time-true, apart-true}
use Rattle.cop_bus.proofs.Hanging.{AreRising, rising, one_anchor, anchor_is}
use Rattle.cop_bus.proofs.SyncEnds.{sync_is_ended}
use Rattle.cop_bus.proofs.Totals.{Each-map, Pairs-from_AllPairs}
use Rattle.cop_bus.proofs.Verdict.{drop-at, drop-all}
use Rattle.cop_bus.proofs.Accepts.{IsOrdered, stream-head, stream-rest, same_stream, stream-found, none-there, any-some, any-none, lower-some}

pub or-left : (a b : Bool) → a ≡ true → (a || b) ≡ true
or-left true b e = refl
or-left false b e = absurd (cc)

pub or-right : (a b : Bool) → b ≡ true → (a || b) ≡ true
or-right true b e = refl
or-right false b e = e

pub pass : (b : Bool) (n : ℕ) (o : Option ℕ) → b ≡ true → o ≡ None → cond (not b) (Some n) o ≡ None
pass true n o e h = h
pass false n o e h = absurd (cc)

pub test-ordered : (x y : Step) → IsOrdered x y → not_before x y ≡ true
test-ordered x y h = elim h [
  | inl l ↦ or-left (nat_lt (at_of x) (at_of y)) _ (lt-true (at_of x) (at_of y) l)
  | inr e ↦ or-right (nat_lt (at_of x) (at_of y)) _ (and-true (at_of x == at_of y) (nat_le (rank_of x) (rank_of y)) (eq-true (at_of x) (at_of y) e.0) (le-true (rank_of x) (rank_of y) e.1))
]

pub stream_cases : (o : Option Stream) → (o ≡ None) ⊎ ((k : Stream) × (o ≡ Some k))
stream_cases None = inl refl
stream_cases (Some k) = inr (k, refl)

-- a stream that is there is found
pub there-some : (ks : List Stream) (id : ℕ) → Any (λ s. s.id ≡ id) ks → is_some (stream_of ks id) ≡ true
there-some ks id a = elim (stream_cases (stream_of ks id)) [
  | inr k ↦ ap is_some k.1
  | inl n ↦ absurd (All-contains (λ s. s.id ≡ id → ⊥) ks a.1 (All-from_recursion (λ s. s.id ≡ id → ⊥) ks (none-there ks id n)) (a.0, a.2, a.3) a.4)
]

-- and what holds of each of an identifier holds of the one that is found
pub at-found : (ks : List Stream) (id : ℕ) (k : Stream) (P : Stream → Type 0) → Each (λ s. s.id ≡ id → P s) ks → stream_of ks id ≡ Some k → P k
at-found [] id k P h e = absurd (cc)
at-found (x ∷ xs) id k P h e = elim (bool_cases (x.id == id)) [
  | inl t ↦ (let f = true-eq x.id id t in subst P (same_stream x k (sym (stream-head x xs id f) ∙ e)) (h.0 f))
  | inr f ↦ at-found xs id k P h.1 (sym (stream-rest x xs id f) ∙ e)
]

-- the last event is that of a step
pub last-from : (steps : List Step) (k : ℕ) (j e : ℕ) → last_event k steps j ≡ Some e → (b : ℕ) × (at : ℕ) × (frame : Content) × (b < j) × (step_at steps b ≡ Queue k at e frame)
last-from steps k zero e h = absurd (cc)
last-from steps k (suc j) e h = go (step_at steps j) refl h (last-from steps k j e)
  where
    go : (x : Step) → step_at steps j ≡ x → event_or k x (last_event k steps j) ≡ Some e →
        (last_event k steps j ≡ Some e → (b : ℕ) × (at : ℕ) × (frame : Content) × (b < j) × (step_at steps b ≡ Queue k at e frame)) →
        (b : ℕ) × (at : ℕ) × (frame : Content) × (b < suc j) × (step_at steps b ≡ Queue k at e frame)
    go (Start id at) s g ih = let r = ih g in (r.0, r.1, r.2, omega (arith, r.3), r.4)
    go (End id at) s g ih = let r = ih g in (r.0, r.1, r.2, omega (arith, r.3), r.4)
    go (Queue id at event frame) s g ih = elim (bool_cases (id == k)) [
      | inl t ↦ (let v : event ≡ e = same_some event e (sym (ap (λ b. cond b (Some event) (last_event k steps j)) t) ∙ g) in
          (j, at, frame, omega arith, s ∙ ap (λ i. Queue i at event frame) (true-eq id k t) ∙ ap (λ v. Queue k at v frame) v))
      | inr f ↦ (let r = ih (sym (ap (λ b. cond b (Some event) (last_event k steps j)) f) ∙ g) in (r.0, r.1, r.2, omega (arith, r.3), r.4))
    ]

-- In a trace that breaks no rule, and whose streams obey, no broken rule is found.
module _ (tau : ℕ) (streams : List Stream) (until : ℕ) (steps : List Step) (tick : 1 ≤ tau) (ok : Obeys tau streams until steps) (obeying : All (IsObeying tau until (instances steps)) streams) where
  pub order-kept : (i : ℕ) → i < length steps → is_in_order until steps i (step_at steps i) ≡ true
  order-kept zero l = le-true (at_of (step_at steps 0)) until (ok.by_end 0 l)
  order-kept (suc i) l = and-true (nat_le (at_of (step_at steps (suc i))) until) (not_before (step_at steps i) (step_at steps (suc i))) (le-true (at_of (step_at steps (suc i))) until (ok.by_end (suc i) l))
      (test-ordered (step_at steps i) (step_at steps (suc i)) (ok.ordered i (suc i) (omega arith) l))

  pub start-known : (i at id : ℕ) → i < length steps → step_at steps i ≡ Start id at → Any (λ s. s.id ≡ id) streams
  start-known i at id l e =
      let h = ok.start_has i at id l e in
      let n = nth_that-some (is_queue id) (count_to (is_start id) steps i) steps (Queue id h.0 h.1 h.2) h.3 in
      (ok.known n.0 h.0 id h.1 h.2 n.1 n.2).some_stream

  pub id-known : (i : ℕ) → i < length steps → Any (λ s. s.id ≡ id_of (step_at steps i)) streams
  id-known i l = go (step_at steps i) refl
    where
      go : (x : Step) → step_at steps i ≡ x → Any (λ s. s.id ≡ id_of (step_at steps i)) streams
      go (Queue id at event frame) e = subst (λ x. Any (λ s. s.id ≡ id_of x) streams) (sym e) (ok.known i at id event frame l e).some_stream
      go (Start id at) e = subst (λ x. Any (λ s. s.id ≡ id_of x) streams) (sym e) (start-known i at id l e)
      go (End id at) e =
          let b = running_started tau steps i id at (omega arith) (ok.end_due i at id l e) in
          subst (λ x. Any (λ s. s.id ≡ id_of x) streams) (sym e) (start-known b.0 b.1 id (omega (arith, b.2)) b.3)

  -- of the stream that is found
  pub length-found : (i at id event : ℕ) (frame : Content) → i < length steps → step_at steps i ≡ Queue id at event frame → (k : Stream) → stream_of streams id ≡ Some k → HasLengthOf k (instance steps i at id event frame)
  length-found i at id event frame l e k f =
      at-found streams id k (λ s. HasLengthOf s (instance steps i at id event frame)) (recursion_from_All (λ s. s.id ≡ id → HasLengthOf s (instance steps i at id event frame)) streams (ok.known i at id event frame l e).length) f

  obeying-found : (id : ℕ) (k : Stream) → stream_of streams id ≡ Some k → IsObeying tau until (instances steps) k
  obeying-found id k f = at-found streams id k (IsObeying tau until (instances steps)) (Each-map (IsObeying tau until (instances steps)) (λ s. s.id ≡ id → IsObeying tau until (instances steps) s) streams (λ s o e. o) (recursion_from_All (IsObeying tau until (instances steps)) streams obeying)) f

  its-id : (id : ℕ) (k : Stream) → stream_of streams id ≡ Some k → id ≡ k.id
  its-id id k f = sym (stream-found streams id k f).1

  rises : AreRising (instances steps)
  rises = rising tau until (instances steps) streams
      (All-from_recursion (IsKnown streams) (instances steps) (each_instance steps 0 steps (in-steps steps) (IsKnown streams) (λ a at id event frame l m e. ok.known a at id event frame (omega arith) e))) obeying

  pub period-kept : (i : ℕ) (x : Step) → i < length steps → step_at steps i ≡ x → (o : Option Stream) → stream_of streams (id_of x) ≡ o → (v : Option ℕ) → last_event (id_of x) steps i ≡ v → is_period_later o v steps i x ≡ true
  period-kept i (Start id at) l e None f v g = refl
  period-kept i (Start id at) l e (Some k) f None g = refl
  period-kept i (Start id at) l e (Some k) f (Some w) g = refl
  period-kept i (End id at) l e None f v g = refl
  period-kept i (End id at) l e (Some k) f None g = refl
  period-kept i (End id at) l e (Some k) f (Some w) g = refl
  period-kept i (Queue id at event frame) l e None f v g = refl
  period-kept i (Queue id at event frame) l e (Some k) f None g = refl
  period-kept i (Queue id at event frame) l e (Some k) f (Some w) g =
      let b = last-from steps id i w g in
      let y = instance steps b.0 b.1 id w b.2 in
      let z = instance steps i at id event frame in
      let n = its-id id k f in
      apart-true (gap_of k) (anchor_of k steps i w) (anchor_of k steps i event) (λ c d h j.
      (pairs_at steps 0 steps (in-steps steps) (λ y z. y.id ≡ k.id → z.id ≡ k.id → ComesBefore tau until (instances steps) k y z)
      (Pairs-from_AllPairs (λ y z. y.id ≡ k.id → z.id ≡ k.id → ComesBefore tau until (instances steps) k y z) (instances steps) (obeying-found id k f).in_order) b.0 b.1 id w b.2 i at id event frame (omega arith) b.3 (omega arith) b.4 e n n).far
      c d (anchor_is tau streams until steps tick ok k i y c h) (anchor_is tau streams until steps tick ok k i z d j))

  pub time-kept : (i : ℕ) (x : Step) → i < length steps → step_at steps i ≡ x → (o : Option Stream) → stream_of streams (id_of x) ≡ o → is_queued_in_time o steps i x ≡ true
  time-kept i (Start id at) l e None f = refl
  time-kept i (Start id at) l e (Some k) f = refl
  time-kept i (End id at) l e None f = refl
  time-kept i (End id at) l e (Some k) f = refl
  time-kept i (Queue id at event frame) l e None f = refl
  time-kept i (Queue id at event frame) l e (Some k) f =
      let y = instance steps i at id event frame in
      let c = instance_in steps 0 steps (in-steps steps) i at id event frame (omega arith) (omega arith) e in
      let t = All-contains (λ y. y.id ≡ k.id → IsQueuedInTime tau until (instances steps) k y) (instances steps) y (obeying-found id k f).in_time c (its-id id k f) in
      let a = found t.anchor t.is_anchor t.after_anchor in
      let same = one_anchor tau until (instances steps) rises k y a.0 t.anchor (anchor_is tau streams until steps tick ok k i y a.0 a.1) t.is_anchor in
      let g = t.after_anchor in
      let h = t.within_jitter in
      time-true k.jitter (anchor_of k steps i event) at a.0 a.1 (omega (arith, same.1, g)) (omega (arith, same.1, h))
    where
      found : (d : Anchor) → IsAnchor tau until (instances steps) k (instance steps i at id event frame) d → d.from ≤ at → (a : Anchor) × (anchor_of k steps i event ≡ Some a)
      found d h after' = elim (cases_lt 0 k.every) [
        | inr z ↦ (own_anchor event, anchor_async k steps i event (omega arith))
        | inl s ↦ ended_anchor k steps i d.mark event d.from s
            (sync_is_ended tau streams until steps tick ok i d.mark event d.from l (ap rank_of e) (let m : at_of (step_at steps i) ≡ at = ap at_of e in omega (arith, m, after')) (h.by_sync s))
      ]

  pub length-kept : (i : ℕ) (x : Step) → i < length steps → step_at steps i ≡ x → (o : Option Stream) → stream_of streams (id_of x) ≡ o → is_of_length o x ≡ true
  length-kept i (Start id at) l e None f = refl
  length-kept i (Start id at) l e (Some k) f = refl
  length-kept i (End id at) l e None f = refl
  length-kept i (End id at) l e (Some k) f = refl
  length-kept i (Queue id at event frame) l e None f = refl
  length-kept i (Queue id at event frame) l e (Some k) f =
      let y = length-found i at id event frame l e k f in
      and-true (nat_le (least_bits k.bytes) frame.bits && nat_le frame.bits (worst_bits k.bytes)) (frame.len == k.bytes)
      (and-true (nat_le (least_bits k.bytes) frame.bits) (nat_le frame.bits (worst_bits k.bytes)) (le-true (least_bits k.bytes) frame.bits y.not_shorter) (le-true frame.bits (worst_bits k.bytes) y.not_longer))
      (eq-true frame.len k.bytes y.same_bytes)

  pub transfer-kept : (i : ℕ) (x : Step) → i < length steps → step_at steps i ≡ x → (r : Option (ℕ × ℕ)) → running tau steps i ≡ r → fits_transfer r x ≡ true
  transfer-kept i (Start id at) l e r f = ap (λ o. fits_transfer o (Start id at)) (sym f ∙ ok.start_free i at id l e)
  transfer-kept i (End id at) l e r f = ap (λ o. fits_transfer o (End id at)) (sym f ∙ ok.end_due i at id l e) ∙ and-true (id == id) (at == at) (eq-true id id refl) (eq-true at at refl)
  transfer-kept i (Queue id at event frame) l e None f = refl
  transfer-kept i (Queue id at event frame) l e (Some r) f = elim (ok.none_missing i r.0 r.1 l f) [
    | inl m ↦ lt-true at r.1 (subst (λ y. at_of y < r.1) e m)
    | inr m ↦ (let q : Queue id at event frame ≡ End r.0 r.1 = sym e ∙ m in absurd (cc))
  ]

  -- one that waits is found to wait
  pub waits-found : (i k : ℕ) → WaitsAfter steps i k → any_waits steps i streams ≡ true
  waits-found i k w = elim (bool_cases (any_waits steps i streams)) [
    | inl t ↦ t
    | inr f ↦ (let b = nth_before (is_queue k) steps i (count_to (is_start k) steps i) w in
        let q = queue_shape k (step_at steps b.0) b.3 in
        let a = (ok.known b.0 q.0 k q.1 q.2 b.2 q.3).some_stream in
        absurd (All-contains (λ s. WaitsAfter steps i s.id → ⊥) streams a.1 (All-from_recursion (λ s. WaitsAfter steps i s.id → ⊥) streams (any-none steps i streams f)) (a.0, a.2, a.3) (subst (λ n. WaitsAfter steps i n) (sym a.4) w)))
  ]

  pub send-kept : (i : ℕ) (x : Step) → i < length steps → step_at steps i ≡ x → has_one_to_send tau streams steps i x ≡ true
  send-kept i (Queue id at event frame) l e = refl
  send-kept i (End id at) l e = refl
  send-kept i (Start id at) l e =
      let w = ok.start_asked i at id l e in
      let h = ok.start_has i at id l e in
      and-true (any_waits steps i streams) (is_soon_queued tau at (nth_that (is_queue id) (count_to (is_start id) steps i) steps)) (waits-found i w.0 w.1)
      (ap (is_soon_queued tau at) h.3 ∙ lt-true h.0 (at + tau) h.4)

  pub lowest-kept : (i : ℕ) (x : Step) → i < length steps → step_at steps i ≡ x → is_lowest streams steps i x ≡ true
  lowest-kept i (Queue id at event frame) l e = refl
  lowest-kept i (End id at) l e = refl
  lowest-kept i (Start id at) l e = elim (bool_cases (lower_waits steps i id streams)) [
    | inr f ↦ ap not f
    | inl t ↦ (let s = lower-some steps i id streams t in let g = ok.start_lowest i at id l e s.0 s.2 in absurd (omega (arith, s.1, g)))
  ]

  pub idle-kept : (i moment : ℕ) → ((j k : ℕ) → i ≡ suc j → running tau steps i ≡ None → WaitsAfter steps i k → moment ≤ at_of (step_at steps j)) → (r : Option (ℕ × ℕ)) → running tau steps i ≡ r → is_not_idle streams steps i r moment ≡ true
  idle-kept zero moment h r f = refl
  idle-kept (suc i) moment h (Some r) f = refl
  idle-kept (suc i) moment h None f = elim (bool_cases (any_waits steps (suc i) streams)) [
    | inr n ↦ or-right (nat_le moment (at_of (step_at steps i))) (not (any_waits steps (suc i) streams)) (ap not n)
    | inl t ↦ (let s = any-some steps (suc i) streams t in or-left (nat_le moment (at_of (step_at steps i))) _ (le-true moment (at_of (step_at steps i)) (h i s.0 refl f s.1)))
  ]

  pub none-broken : (i : ℕ) → i < length steps → broken_by tau streams until steps i (step_at steps i) ≡ None
  none-broken i l =
      let x = step_at steps i in
      pass (is_in_order until steps i x) 60 _ (order-kept i l)
      (pass (is_some (stream_of streams (id_of x))) 61 _ (there-some streams (id_of x) (id-known i l))
      (pass (is_period_later (stream_of streams (id_of x)) (last_event (id_of x) steps i) steps i x) 62 _ (period-kept i x l refl (stream_of streams (id_of x)) refl (last_event (id_of x) steps i) refl)
      (pass (is_queued_in_time (stream_of streams (id_of x)) steps i x) 63 _ (time-kept i x l refl (stream_of streams (id_of x)) refl)
      (pass (is_of_length (stream_of streams (id_of x)) x) 64 _ (length-kept i x l refl (stream_of streams (id_of x)) refl)
      (pass (fits_transfer (running tau steps i) x) 65 _ (transfer-kept i x l refl (running tau steps i) refl)
      (pass (has_one_to_send tau streams steps i x) 66 _ (send-kept i x l refl)
      (pass (is_lowest streams steps i x) 67 _ (lowest-kept i x l refl)
      (pass (is_not_idle streams steps i (running tau steps i) (at_of x)) 68 None (idle-kept i (at_of x) (λ j k e r w. idle j k e r w) (running tau steps i) refl) refl))))))))
    where
      idle : (j k : ℕ) → i ≡ suc j → running tau steps i ≡ None → WaitsAfter steps i k → at_of (step_at steps i) ≤ at_of (step_at steps j)
      idle j k e r w = subst (λ n. at_of (step_at steps n) ≤ at_of (step_at steps j)) (sym e) (ok.not_idle j k (omega (arith, e, l)) (subst (λ n. running tau steps n ≡ None) e r) (subst (λ n. WaitsAfter steps n k) e w))

  pub unfinished-kept : (r : Option (ℕ × ℕ)) → running tau steps (length steps) ≡ r → is_unfinished until r ≡ true
  unfinished-kept None f = refl
  unfinished-kept (Some r) f = lt-true until r.1 (ok.last_missing r.0 r.1 f)

  pub none-broken-at-end : broken_at_end tau streams until steps ≡ None
  none-broken-at-end =
      pass (is_unfinished until (running tau steps (length steps))) 65 _ (unfinished-kept (running tau steps (length steps)) refl)
      (pass (is_not_idle streams steps (length steps) (running tau steps (length steps)) until) 68 None (idle-kept (length steps) until (λ j k e r w. idle j k e r w) (running tau steps (length steps)) refl) refl)
    where
      idle : (j k : ℕ) → length steps ≡ suc j → running tau steps (length steps) ≡ None → WaitsAfter steps (length steps) k → until ≤ at_of (step_at steps j)
      idle j k e r w = ok.last_not_idle j k (sym e) (subst (λ n. running tau steps n ≡ None) e r) (subst (λ n. WaitsAfter steps n k) e w)

  pub none-found : (n i : ℕ) → i + n ≡ length steps → first_broken_from tau streams until steps i (drop i steps) ≡ None
  none-found zero i e =
      let q : i ≡ length steps = omega arith in
      subst (λ m. first_broken_from tau streams until steps m (drop m steps) ≡ None) (sym q)
      (ap (first_broken_from tau streams until steps (length steps)) (drop-all steps) ∙ ap (λ o. at_step (length steps) o None) none-broken-at-end)
  none-found (suc n) i e =
      let l : i < length steps = omega arith in
      ap (first_broken_from tau streams until steps i) (drop-at steps i l)
      ∙ ap (λ o. at_step i o (first_broken_from tau streams until steps (suc i) (drop (suc i) steps))) (none-broken i l)
      ∙ none-found n (suc i) (omega arith)

  pub accepted : first_broken tau streams until steps ≡ None
  accepted = none-found (length steps) 0 (omega arith)
