-- A run of streams is one of the same streams with other deadlines.
use Rattle.std.proofs.Common.{◌≡◌, ℕ, ◌-◌, ◌<◌, ◌≤◌, subst, List, length, get_or, slice_get, Some, option_map, All, refl, sym, ap, ◌∙◌, arith}
use Rattle.std.proofs.lemmas.Option.{slice_get_within, slice_get-get_or, get_or_from_slice_get}
use Rattle.cop_rta.specs.declared.streams.Stream.{Stream}
use Rattle.cop_rta.specs.Entries.{Entry, entry_of}
use Rattle.cop_bus.specs.declared.anchors.Anchor.{Anchor}
use Rattle.cop_bus.specs.Run.{least_bits, worst_bits, Instance, HasLengthOf, IsKnown, IsLegal, IsAnchor, IsObeying, gap_of}
use Rattle.cop_plan.specs.Margins.{lower, AreLowered}
use Rattle.cop_plan.proofs.MarginLemmas.{lowered_length, lowered_entry}

-- of two streams the same but for their deadlines
record AreSame (k t : Stream) : Type 0 where
  id : t.id ≡ k.id
  bytes : t.bytes ≡ k.bytes
  period : t.period ≡ k.period
  jitter : t.jitter ≡ k.jitter
  every : t.every ≡ k.every

module _ (tau until : ℕ) (run : List Instance) (k t : Stream) (same : AreSame k t) where
  length_same : (y : Instance) → HasLengthOf k y → HasLengthOf t y
  length_same y h = record {
    not_shorter = subst (λ b. least_bits b ≤ y.bits) (sym same.bytes) h.not_shorter;
    not_longer = subst (λ b. y.bits ≤ worst_bits b) (sym same.bytes) h.not_longer;
    same_bytes = h.same_bytes ∙ sym same.bytes;
  }

  anchor_after : (y : Instance) (e : Anchor) → IsAnchor tau until run k y e → IsAnchor tau until run t y e
  anchor_after y e h = record { by_event = λ none. h.by_event (sym same.every ∙ none); by_sync = λ some. h.by_sync (omega (arith, some, same.every)) }

  anchor_before : (y : Instance) (e : Anchor) → IsAnchor tau until run t y e → IsAnchor tau until run k y e
  anchor_before y e h = record { by_event = λ none. h.by_event (same.every ∙ none); by_sync = λ some. h.by_sync (omega (arith, some, same.every)) }

  gap_same : gap_of t ≡ gap_of k
  gap_same = rw (same.every, same.period) refl

  obeys_same : IsObeying tau until run k → IsObeying tau until run t
  obeys_same h = record {
    in_time = λ i d low its.
        let q = h.in_time i d low (its ∙ same.id) in
        record {
          anchor = q.anchor;
          is_anchor = anchor_after (get_or run i d) q.anchor q.is_anchor;
          after_anchor = q.after_anchor;
          within_jitter = omega (arith, q.within_jitter, same.jitter);
        };
    in_order = λ i j d lt low mine its.
        let b = h.in_order i j d lt low (mine ∙ same.id) (its ∙ same.id) in
        record {
          far = λ d' e x y. omega (arith, b.far d' e (anchor_before (get_or run i d) d' x) (anchor_before (get_or run j d) e y), gap_same);
          queued_first = b.queued_first;
        };
  }

module _ (margin : ℕ) (streams lowered : List Stream) (is : AreLowered margin streams lowered) where
  entry_at : (k : ℕ) (d : Stream) → k < length lowered → entry_of (get_or lowered k d) ≡ lower margin (entry_of (get_or streams k d))
  entry_at k d low = lowered_entry (λ _. margin) streams lowered is k d low (omega (arith, low, lowered_length (λ _. margin) streams lowered is))

  same_at : (k : ℕ) (d : Stream) → k < length lowered → AreSame (get_or streams k d) (get_or lowered k d)
  same_at k d low = record {
    id = ap (λ (e : Entry). e.id) (entry_at k d low);
    bytes = ap (λ (e : Entry). e.bytes) (entry_at k d low);
    period = ap (λ (e : Entry). e.period) (entry_at k d low);
    jitter = ap (λ (e : Entry). e.jitter) (entry_at k d low);
    every = ap (λ (e : Entry). e.every) (entry_at k d low);
  }

  size : length lowered ≡ length streams
  size = lowered_length (λ _. margin) streams lowered is

  module _ (tau until : ℕ) (run : List Instance) where
    known_lowered : (y : Instance) → IsKnown streams y → IsKnown lowered y
    known_lowered y h = record {
      some_stream =
          (let found = h.some_stream in
          let inside : found.0 < length lowered = omega (arith, found.2, size) in
          let id : (get_or lowered found.0 found.1).id ≡ y.id = (same_at found.0 found.1 inside).id ∙ ap (λ (s : Stream). s.id) found.3 ∙ found.4 in
          (found.0, get_or lowered found.0 found.1, inside, get_or_self lowered found.0 found.1 inside, id));
      length = λ k d low its.
          length_same tau until run (get_or streams k d) (get_or lowered k d) (same_at k d low) y
          (h.length k d (omega (arith, low, size)) (sym (same_at k d low).id ∙ its));
    }
      where
        get_or_self : (xs : List Stream) (k : ℕ) (d : Stream) → k < length xs → get_or xs k (get_or xs k d) ≡ get_or xs k d
        get_or_self xs k d low = get_or_from_slice_get xs k (get_or xs k d) (get_or xs k d) (slice_get-get_or xs k d low)

    pub legal_lowered : IsLegal tau streams until run → IsLegal tau lowered until run
    legal_lowered h = record {
      known = λ i d low. known_lowered (get_or run i d) (h.known i d low);
      in_order = h.in_order;
      one_at_a_time = h.one_at_a_time;
      asked_for = h.asked_for;
      joined = h.joined;
      by_priority = h.by_priority;
      never_idle = h.never_idle;
    }

    pub obeying_lowered : All (IsObeying tau until run) streams → All (IsObeying tau until run) lowered
    obeying_lowered h k d low = obeys_same tau until run (get_or streams k d) (get_or lowered k d) (same_at k d low) (h k d (omega (arith, low, size)))

  pub lowered_here : (p : ℕ) (k : Stream) → slice_get streams p ≡ Some k → (t : Stream) × (slice_get lowered p ≡ Some t) × (t.id ≡ k.id) × (t.deadline ≡ option_map (λ d. d - margin) k.deadline)
  lowered_here p k here =
      let inside : p < length streams = slice_get_within streams p k here in
      let low : p < length lowered = omega (arith, inside, size) in
      let its : get_or streams p k ≡ k = get_or_from_slice_get streams p k k here in (
        get_or lowered p k,
        slice_get-get_or lowered p k low,
        (same_at p k low).id ∙ ap (λ (s : Stream). s.id) its,
        ap (λ (e : Entry). e.deadline) (entry_at p k low) ∙ ap (λ (s : Stream). option_map (λ d. d - margin) s.deadline) its,
      )
