use Rattle.std.proofs.Common.{◌≡◌, ℕ, ◌+◌, ◌≤◌, ◌<◌, ◌⊎◌, inl, inr, List, [], ◌∷◌, length, refl, sym, ◌∙◌, ap, subst, arith, suc, zero, Bool, true, false, cond, not, drop, ◌&&◌, ◌||◌, nat_lt, nat_le}
use Rattle.std.specs.Prelude.{Option, None, Some, is_some, Any, All, AllPairs, ◌==◌}
use Rattle.std.proofs.lemmas.Bool.{cases_lt}
use Rattle.std.proofs.lemmas.List.Elements.{All-from_recursion, All-contains, All-weaker}
use Rattle.std.specs.List.{AllByRecursion as Each}
use Rattle.cop_rta.specs.declared.streams.Stream.{Stream}
use Rattle.cop_bus.specs.declared.steps.Step.{Step}
use Rattle.cop_bus.specs.declared.steps.Content.{Content}
use Rattle.cop_bus.specs.declared.steps.Step.TheVariants.{Queue, Start, End}
use Rattle.cop_bus.specs.declared.anchors.Anchor.{Anchor}
use Rattle.cop_bus.specs.Run.{least_bits, worst_bits, HasLengthOf, IsKnown, gap_of}
use Rattle.cop_bus.specs.Trace.{is_queue, is_start, count_to, nth_that, step_at, running, at_of, rank_of, instance}
use Rattle.cop_bus.proofs.Indexed.{WaitsAfter, Obeys}
use Rattle.cop_bus.specs.Ends.{anchor_of}
use Rattle.cop_bus.specs.Judge.{stream_of, are_apart, last_event, event_or, not_before, is_period_later, is_queued_in_time, is_of_length, fits_transfer, is_not_idle, broken_by, broken_at_end, at_step, first_broken_from, first_broken, any_waits, lower_waits, waits_after, is_unfinished}
use Rattle.cop_bus.proofs.Totals.{Pairs, Pairs-from_AllPairs, Each-map}
use Rattle.cop_bus.proofs.Demand.{and-left, and-right, and-true}
use Rattle.cop_bus.proofs.Work.{true-lt, true-le, true-eq, eq-true, lt-true}
use Rattle.cop_bus.proofs.StepLemmas.{bool_cases, nth_before, queue_shape, nth_that-some}
use Rattle.cop_bus.proofs.AnchorLemmas.{time-found, apart-found, anchor_stays}
use Rattle.cop_bus.proofs.Verdict.{Keeps, keeps, passed, drop-at, drop-all, soon-some}

abbrev pub AreDistinct : List Stream → Type 0
AreDistinct streams = AllPairs (λ k l. k.id ≡ l.id → ⊥) streams

pub or_cases : (a b : Bool) → (a || b) ≡ true → (a ≡ true) ⊎ (b ≡ true)
or_cases true b h = inl refl
or_cases false b h = inr h

pub or-false : (a b : Bool) → (a || b) ≡ false → (a ≡ false) × (b ≡ false)
or-false true b h = absurd (cc)
or-false false b h = (refl, h)

pub not-true : (b : Bool) → not b ≡ true → b ≡ false
not-true true h = absurd (cc)
not-true false h = refl

pub some_stream : (o : Option Stream) → is_some o ≡ true → (k : Stream) × (o ≡ Some k)
some_stream None h = absurd (cc)
some_stream (Some k) h = (k, refl)

-- The stream of an identifier.
pub stream-head : (k : Stream) (ks : List Stream) (id : ℕ) → k.id ≡ id → stream_of (k ∷ ks) id ≡ Some k
stream-head k ks id e = ap (λ b. cond b (Some k) (stream_of ks id)) (eq-true k.id id e)

pub stream-rest : (k : Stream) (ks : List Stream) (id : ℕ) → (k.id == id) ≡ false → stream_of (k ∷ ks) id ≡ stream_of ks id
stream-rest k ks id e = ap (λ b. cond b (Some k) (stream_of ks id)) e

pub same_stream : (a b : Stream) → Some a ≡ Some b → a ≡ b
same_stream a b e = cc

pub stream-found : (ks : List Stream) (id : ℕ) (k : Stream) → stream_of ks id ≡ Some k → Any (λ s. s.id ≡ id) ks × (k.id ≡ id)
stream-found [] id k h = absurd (cc)
stream-found (x ∷ xs) id k h = elim (bool_cases (x.id == id)) [
  | inl t ↦ (let e = true-eq x.id id t in let s : x ≡ k = same_stream x k (sym (stream-head x xs id e) ∙ h) in
      ((0, x, omega arith, refl, e), sym (ap (λ s. s.id) s) ∙ e))
  | inr f ↦ (let r = stream-found xs id k (sym (stream-rest x xs id f) ∙ h) in
      ((suc r.0.0, r.0.1, omega (arith, r.0.2), r.0.3, r.0.4), r.1))
]

pub none-there : (ks : List Stream) (id : ℕ) → stream_of ks id ≡ None → Each (λ s. s.id ≡ id → ⊥) ks
none-there [] id h = tt
none-there (x ∷ xs) id h = elim (bool_cases (x.id == id)) [
  | inl t ↦ (let e = stream-head x xs id (true-eq x.id id t) in absurd (cc))
  | inr f ↦ (λ e. (let t = eq-true x.id id e in absurd (cc)), none-there xs id (sym (stream-rest x xs id f) ∙ h))
]

pub only-one : (ks : List Stream) (id : ℕ) (k : Stream) → Pairs (λ k l. k.id ≡ l.id → ⊥) ks → stream_of ks id ≡ Some k → Each (λ s. s.id ≡ id → s ≡ k) ks
only-one [] id k d h = tt
only-one (x ∷ xs) id k d h = elim (bool_cases (x.id == id)) [
  | inl t ↦ (let e = true-eq x.id id t in let s : x ≡ k = same_stream x k (sym (stream-head x xs id e) ∙ h) in
      (λ _. s, Each-map (λ l. x.id ≡ l.id → ⊥) (λ s. s.id ≡ id → s ≡ k) xs (λ l n f. absurd (n (e ∙ sym f))) d.0))
  | inr f ↦ (λ e. (let t = eq-true x.id id e in absurd (cc)), only-one xs id k d.1 (sym (stream-rest x xs id f) ∙ h))
]

-- what holds of the stream that is found holds of each of its identifier
pub of-found : (ks : List Stream) (id : ℕ) (k : Stream) (P : Stream → Type 0) → AreDistinct ks → stream_of ks id ≡ Some k → P k → All (λ s. s.id ≡ id → P s) ks
of-found ks id k P d h p =
    All-weaker (λ s. s.id ≡ id → s ≡ k) (λ s. s.id ≡ id → P s) (λ s g e. subst P (sym (g e)) p) ks (All-from_recursion (λ s. s.id ≡ id → s ≡ k) ks (only-one ks id k (Pairs-from_AllPairs (λ k l. k.id ≡ l.id → ⊥) ks d) h))

-- Who waits.
pub any-some : (steps : List Step) (i : ℕ) (ks : List Stream) → any_waits steps i ks ≡ true → (k : ℕ) × WaitsAfter steps i k
any-some steps i [] h = absurd (cc)
any-some steps i (x ∷ xs) h = elim (or_cases (waits_after steps i x.id) (any_waits steps i xs) h) [
  | inl t ↦ (x.id, true-lt _ _ t)
  | inr t ↦ any-some steps i xs t
]

pub any-none : (steps : List Step) (i : ℕ) (ks : List Stream) → any_waits steps i ks ≡ false → Each (λ s. WaitsAfter steps i s.id → ⊥) ks
any-none steps i [] h = tt
any-none steps i (x ∷ xs) h = let r = or-false (waits_after steps i x.id) (any_waits steps i xs) h in
    (λ w. (let t = lt-true (count_to (is_start x.id) steps i) (count_to (is_queue x.id) steps i) w in absurd (cc)), any-none steps i xs r.1)

pub lower-none : (steps : List Step) (i id : ℕ) (ks : List Stream) → lower_waits steps i id ks ≡ false → Each (λ s. s.id < id → WaitsAfter steps i s.id → ⊥) ks
lower-none steps i id [] h = tt
lower-none steps i id (x ∷ xs) h = let r = or-false (nat_lt x.id id && waits_after steps i x.id) (lower_waits steps i id xs) h in
    (λ l w. (let t = and-true (nat_lt x.id id) (waits_after steps i x.id) (lt-true x.id id l) (lt-true (count_to (is_start x.id) steps i) (count_to (is_queue x.id) steps i) w) in absurd (cc)), lower-none steps i id xs r.1)

pub lower-some : (steps : List Step) (i id : ℕ) (ks : List Stream) → lower_waits steps i id ks ≡ true → (k : ℕ) × (k < id) × WaitsAfter steps i k
lower-some steps i id [] h = absurd (cc)
lower-some steps i id (x ∷ xs) h = elim (or_cases (nat_lt x.id id && waits_after steps i x.id) (lower_waits steps i id xs) h) [
  | inl t ↦ (x.id, true-lt _ _ (and-left (nat_lt x.id id) (waits_after steps i x.id) t), true-lt _ _ (and-right (nat_lt x.id id) (waits_after steps i x.id) t))
  | inr t ↦ lower-some steps i id xs t
]

-- The order of two steps.
abbrev pub IsOrdered : Step → Step → Type 0
IsOrdered x y = (at_of x < at_of y) ⊎ ((at_of x ≡ at_of y) × (rank_of x ≤ rank_of y))

pub ordered-test : (x y : Step) → not_before x y ≡ true → IsOrdered x y
ordered-test x y h = elim (or_cases (nat_lt (at_of x) (at_of y)) ((at_of x == at_of y) && nat_le (rank_of x) (rank_of y)) h) [
  | inl t ↦ inl (true-lt (at_of x) (at_of y) t)
  | inr t ↦ inr (true-eq (at_of x) (at_of y) (and-left (at_of x == at_of y) (nat_le (rank_of x) (rank_of y)) t), true-le (rank_of x) (rank_of y) (and-right (at_of x == at_of y) (nat_le (rank_of x) (rank_of y)) t))
]

pub ordered-trans : (x y z : Step) → IsOrdered x y → IsOrdered y z → IsOrdered x z
ordered-trans x y z g h = elim g [
  | inl a ↦ elim h [ inl b ↦ inl (omega arith) | inr b ↦ inl (omega (arith, b.0)) ]
  | inr a ↦ elim h [ inl b ↦ inl (omega (arith, a.0)) | inr b ↦ inr (a.0 ∙ b.0, omega (arith, a.1, b.1)) ]
]

pub at-none : (i : ℕ) (o : Option ℕ) (next : Option (ℕ × ℕ)) → at_step i o next ≡ None → (o ≡ None) × (next ≡ None)
at-none i None next h = (refl, h)
at-none i (Some r) next h = absurd (cc)

pub fits-start : (at id : ℕ) (r : Option (ℕ × ℕ)) → fits_transfer r (Start id at) ≡ true → r ≡ None
fits-start at id None h = refl
fits-start at id (Some r) h = absurd (cc)

pub fits-end : (at id : ℕ) (r : Option (ℕ × ℕ)) → fits_transfer r (End id at) ≡ true → r ≡ Some (id, at)
fits-end at id None h = absurd (cc)
fits-end at id (Some r) h = ap (λ v. Some (v, r.1)) (true-eq r.0 id (and-left (r.0 == id) (r.1 == at) h)) ∙ ap (λ v. Some (id, v)) (true-eq r.1 at (and-right (r.0 == id) (r.1 == at) h))

pub fits-running : (id at : ℕ) (x : Step) → fits_transfer (Some (id, at)) x ≡ true → (at_of x < at) ⊎ (x ≡ End id at)
fits-running id at (Queue id' at' event frame) h = inl (true-lt at' at h)
fits-running id at (Start id' at') h = absurd (cc)
fits-running id at (End id' at') h = inr (sym (ap (λ v. End id v) (true-eq at at' (and-right (id == id') (at == at') h)) ∙ ap (λ v. End v at') (true-eq id id' (and-left (id == id') (at == at') h))))

-- A trace in which no broken rule is found breaks none.
module _ (tau : ℕ) (streams : List Stream) (until : ℕ) (steps : List Step) (distinct : AreDistinct streams) (h : first_broken tau streams until steps ≡ None) where
  pub none-from : (i : ℕ) → i ≤ length steps → first_broken_from tau streams until steps i (drop i steps) ≡ None
  none-from zero l = h
  none-from (suc i) l =
      let e = sym (ap (first_broken_from tau streams until steps i) (drop-at steps i (omega arith))) ∙ none-from i (omega arith) in
      (at-none i (broken_by tau streams until steps i (step_at steps i)) (first_broken_from tau streams until steps (suc i) (drop (suc i) steps)) e).1

  pub kept : (i : ℕ) → i < length steps → Keeps tau streams until steps i (step_at steps i)
  kept i l =
      let e = sym (ap (first_broken_from tau streams until steps i) (drop-at steps i l)) ∙ none-from i (omega arith) in
      keeps tau streams until steps i (step_at steps i) (at-none i (broken_by tau streams until steps i (step_at steps i)) (first_broken_from tau streams until steps (suc i) (drop (suc i) steps)) e).0

  pub kept-as : (i : ℕ) (x : Step) → i < length steps → step_at steps i ≡ x → Keeps tau streams until steps i x
  kept-as i x l e = subst (Keeps tau streams until steps i) e (kept i l)

  pub none-at-end : broken_at_end tau streams until steps ≡ None
  none-at-end =
      let e = sym (ap (first_broken_from tau streams until steps (length steps)) (drop-all steps)) ∙ none-from (length steps) (omega arith) in
      (at-none (length steps) (broken_at_end tau streams until steps) None e).0

  pub ends : (is_unfinished until (running tau steps (length steps)) ≡ true) × (is_not_idle streams steps (length steps) (running tau steps (length steps)) until ≡ true)
  ends =
      let a = passed (is_unfinished until (running tau steps (length steps))) 65 _ none-at-end in
      let b = passed (is_not_idle streams steps (length steps) (running tau steps (length steps)) until) 68 _ a.1 in
      (a.0, b.0)

  pub next-ordered : (i : ℕ) → suc i < length steps → IsOrdered (step_at steps i) (step_at steps (suc i))
  next-ordered i l =
      let k = (kept (suc i) l).order in
      ordered-test (step_at steps i) (step_at steps (suc i)) (and-right (nat_le (at_of (step_at steps (suc i))) until) (not_before (step_at steps i) (step_at steps (suc i))) k)

  pub ordered : (i j : ℕ) → i < j → j < length steps → IsOrdered (step_at steps i) (step_at steps j)
  ordered i zero l m = absurd (omega arith)
  ordered i (suc j) l m = elim (cases_lt i j) [
    | inl k ↦ ordered-trans (step_at steps i) (step_at steps j) (step_at steps (suc j)) (ordered i j k (omega arith)) (next-ordered j m)
    | inr k ↦ (let e : j ≡ i = omega arith in subst (λ n. IsOrdered (step_at steps n) (step_at steps (suc j))) e (next-ordered j m))
  ]

  pub by-end : (i : ℕ) → i < length steps → at_of (step_at steps i) ≤ until
  by-end zero l = true-le (at_of (step_at steps 0)) until (kept zero l).order
  by-end (suc i) l = true-le (at_of (step_at steps (suc i))) until (and-left (nat_le (at_of (step_at steps (suc i))) until) (not_before (step_at steps i) (step_at steps (suc i))) (kept (suc i) l).order)

  pub known : (i at id event : ℕ) (frame : Content) → i < length steps → step_at steps i ≡ Queue id at event frame → IsKnown streams (instance steps i at id event frame)
  known i at id event frame l e =
      let k = kept-as i (Queue id at event frame) l e in
      let s = some_stream (stream_of streams id) k.known in
      let b : (nat_le (least_bits s.0.bytes) frame.bits && nat_le frame.bits (worst_bits s.0.bytes) && (frame.len == s.0.bytes)) ≡ true = sym (ap (λ o. is_of_length o (Queue id at event frame)) s.1) ∙ k.of_length in
      record {
        some_stream = (stream-found streams id s.0 s.1).0;
        length = of-found streams id s.0 (λ s. HasLengthOf s (instance steps i at id event frame)) distinct s.1 (record {
          not_shorter = true-le _ _ (and-left (nat_le (least_bits s.0.bytes) frame.bits) (nat_le frame.bits (worst_bits s.0.bytes)) (and-left (nat_le (least_bits s.0.bytes) frame.bits && nat_le frame.bits (worst_bits s.0.bytes)) (frame.len == s.0.bytes) b));
          not_longer = true-le _ _ (and-right (nat_le (least_bits s.0.bytes) frame.bits) (nat_le frame.bits (worst_bits s.0.bytes)) (and-left (nat_le (least_bits s.0.bytes) frame.bits && nat_le frame.bits (worst_bits s.0.bytes)) (frame.len == s.0.bytes) b));
          same_bytes = true-eq _ _ (and-right (nat_le (least_bits s.0.bytes) frame.bits && nat_le frame.bits (worst_bits s.0.bytes)) (frame.len == s.0.bytes) b);
        });
      }

  -- the stream of a step that queues an instance, and what the instance hangs on
  pub hangs : (j at id event : ℕ) (frame : Content) → j < length steps → step_at steps j ≡ Queue id at event frame →
      (k : Stream) × (stream_of streams id ≡ Some k) × (e : Anchor) × (anchor_of k steps j event ≡ Some e) × (e.from ≤ at) × (at ≤ e.from + k.jitter)
  hangs j at id event frame l s =
      let k = kept-as j (Queue id at event frame) l s in
      let o = some_stream (stream_of streams id) k.known in
      let t = time-found o.0.jitter (anchor_of o.0 steps j event) at (sym (ap (λ v. is_queued_in_time v steps j (Queue id at event frame)) o.1) ∙ k.in_time) in
      (o.0, o.1, t.0, t.1, t.2, t.3)

  -- of two steps of one stream that come after each other the marks are a gap apart
  pub period-later : (j at id event : ℕ) (frame : Content) → j < length steps → step_at steps j ≡ Queue id at event frame → (k : Stream) → stream_of streams id ≡ Some k → (v : ℕ) → last_event id steps j ≡ Some v →
      (d e : Anchor) → anchor_of k steps j v ≡ Some d → anchor_of k steps j event ≡ Some e → d.mark + gap_of k ≤ e.mark
  period-later j at id event frame l s k o v f d e g h =
      let p = (kept-as j (Queue id at event frame) l s).period in
      let q : are_apart (gap_of k) (anchor_of k steps j v) (anchor_of k steps j event) ≡ true =
      sym (ap (λ w. is_period_later w (last_event id steps j) steps j (Queue id at event frame)) o ∙ ap (λ w. is_period_later (Some k) w steps j (Queue id at event frame)) f) ∙ p in
      apart-found (gap_of k) (anchor_of k steps j v) (anchor_of k steps j event) d e q g h

  -- the mark of the last event is not less than one before it
  pub last-upto : (i at id event : ℕ) (frame : Content) → step_at steps i ≡ Queue id at event frame → (k : Stream) → stream_of streams id ≡ Some k → (d : Anchor) → anchor_of k steps i event ≡ Some d →
      (j : ℕ) → i < j → j ≤ length steps → (v : ℕ) × (e : Anchor) × (last_event id steps j ≡ Some v) × (anchor_of k steps j v ≡ Some e) × (d.mark ≤ e.mark)
  last-upto i at id event frame q k o d h zero l m = absurd (omega arith)
  last-upto i at id event frame q k o d h (suc j) l m = elim (cases_lt i j) [
    | inr n ↦ (let e : i ≡ j = omega arith in
        let s : step_at steps j ≡ Queue id at event frame = sym (ap (step_at steps) e) ∙ q in (
          event,
          d,
          ap (λ x. event_or id x (last_event id steps j)) s ∙ ap (λ b. cond b (Some event) (last_event id steps j)) (eq-true id id refl),
          anchor_stays k steps i (suc j) event d (omega arith) h,
          omega arith,
        ))
    | inl n ↦ go (step_at steps j) refl (last-upto i at id event frame q k o d h j n (omega arith))
  ]
    where
      go : (x : Step) → step_at steps j ≡ x → ((v : ℕ) × (e : Anchor) × (last_event id steps j ≡ Some v) × (anchor_of k steps j v ≡ Some e) × (d.mark ≤ e.mark)) →
          (v : ℕ) × (e : Anchor) × (last_event id steps (suc j) ≡ Some v) × (anchor_of k steps (suc j) v ≡ Some e) × (d.mark ≤ e.mark)
      go (Start id' at') s r = (r.0, r.1, ap (λ x. event_or id x (last_event id steps j)) s ∙ r.2, anchor_stays k steps j (suc j) r.0 r.1 (omega arith) r.3, r.4)
      go (End id' at') s r = (r.0, r.1, ap (λ x. event_or id x (last_event id steps j)) s ∙ r.2, anchor_stays k steps j (suc j) r.0 r.1 (omega arith) r.3, r.4)
      go (Queue id' at' event' frame') s r = elim (bool_cases (id' == id)) [
        | inr f ↦ (r.0, r.1, ap (λ x. event_or id x (last_event id steps j)) s ∙ ap (λ b. cond b (Some event') (last_event id steps j)) f ∙ r.2, anchor_stays k steps j (suc j) r.0 r.1 (omega arith) r.3, r.4)
        | inl t ↦ (let e : id' ≡ id = true-eq id' id t in
            let s' : step_at steps j ≡ Queue id at' event' frame' = s ∙ ap (λ n. Queue n at' event' frame') e in
            let w = hangs j at' id event' frame' (omega arith) s' in
            let same : w.0 ≡ k = same_stream w.0 k (sym w.1 ∙ o) in
            let g : anchor_of k steps j event' ≡ Some w.2 = subst (λ k. anchor_of k steps j event' ≡ Some w.2) same w.3 in
            let p = period-later j at' id event' frame' (omega arith) s' k o r.0 r.2 r.1 w.2 r.3 g in (
              event',
              w.2,
              ap (λ x. event_or id x (last_event id steps j)) s ∙ ap (λ b. cond b (Some event') (last_event id steps j)) t,
              anchor_stays k steps j (suc j) event' w.2 (omega arith) g,
              omega (arith, p, r.4),
            ))
      ]

  pub far-apart : (i j at at' id event event' : ℕ) (frame : Content) (frame' : Content) → i < j → j < length steps → step_at steps i ≡ Queue id at event frame → step_at steps j ≡ Queue id at' event' frame' →
      (k : Stream) → stream_of streams id ≡ Some k → (d e : Anchor) → anchor_of k steps i event ≡ Some d → anchor_of k steps j event' ≡ Some e → d.mark + gap_of k ≤ e.mark
  far-apart i j at at' id event event' frame frame' l m f g k o d e h n =
      let u = last-upto i at id event frame f k o d h j l (omega arith) in
      let p = period-later j at' id event' frame' m g k o u.0 u.2 u.1 e u.3 n in
      omega (arith, u.4, p)

  -- who waits is of a stream of the set
  pub waits-known : (i k : ℕ) → WaitsAfter steps i k → Any (λ s. s.id ≡ k) streams
  waits-known i k w =
      let b = nth_before (is_queue k) steps i (count_to (is_start k) steps i) w in
      let q = queue_shape k (step_at steps b.0) b.3 in
      (known b.0 q.0 k q.1 q.2 b.2 q.3).some_stream

  -- so if none of the set waits, none does
  pub none-waits : (i k : ℕ) → any_waits steps i streams ≡ false → WaitsAfter steps i k → ⊥
  none-waits i k f w =
      let a = waits-known i k w in
      All-contains (λ s. WaitsAfter steps i s.id → ⊥) streams a.1 (All-from_recursion (λ s. WaitsAfter steps i s.id → ⊥) streams (any-none steps i streams f)) (a.0, a.2, a.3) (subst (λ n. WaitsAfter steps i n) (sym a.4) w)

  pub start-has-one : (i at id : ℕ) → i < length steps → step_at steps i ≡ Start id at →
      (q event : ℕ) × (frame : Content) × (nth_that (is_queue id) (count_to (is_start id) steps i) steps ≡ Some (Queue id q event frame)) × (q < at + tau)
  start-has-one i at id l e =
      let k = kept-as i (Start id at) l e in
      let s = soon-some tau at (nth_that (is_queue id) (count_to (is_start id) steps i) steps) (and-right (any_waits steps i streams) _ k.to_send) in
      let n = nth_that-some (is_queue id) (count_to (is_start id) steps i) steps s.0 s.1 in
      let q = queue_shape id s.0 n.3 in
      (q.0, q.1, q.2, s.1 ∙ ap Some q.3, subst (λ y. at_of y < at + tau) q.3 s.2)

  pub start-is-lowest : (i at id : ℕ) → i < length steps → step_at steps i ≡ Start id at → (k : ℕ) → WaitsAfter steps i k → id ≤ k
  start-is-lowest i at id l e k w = elim (cases_lt k id) [
    | inr g ↦ g
    | inl g ↦ (let f = not-true (lower_waits steps i id streams) (kept-as i (Start id at) l e).lowest in
        let a = waits-known i k w in
        absurd (All-contains (λ s. s.id < id → WaitsAfter steps i s.id → ⊥) streams a.1 (All-from_recursion (λ s. s.id < id → WaitsAfter steps i s.id → ⊥) streams (lower-none steps i id streams f)) (a.0, a.2, a.3)
        (omega (arith, g, a.4)) (subst (λ n. WaitsAfter steps i n) (sym a.4) w)))
  ]

  pub idle-test : (i k moment : ℕ) → is_not_idle streams steps (suc i) (running tau steps (suc i)) moment ≡ true → running tau steps (suc i) ≡ None → WaitsAfter steps (suc i) k → moment ≤ at_of (step_at steps i)
  idle-test i k moment t r w =
      let g : (nat_le moment (at_of (step_at steps i)) || not (any_waits steps (suc i) streams)) ≡ true = sym (ap (λ o. is_not_idle streams steps (suc i) o moment) r) ∙ t in
      elim (or_cases (nat_le moment (at_of (step_at steps i))) (not (any_waits steps (suc i) streams)) g) [
        | inl a ↦ true-le moment (at_of (step_at steps i)) a
        | inr b ↦ absurd (none-waits (suc i) k (not-true (any_waits steps (suc i) streams) b) w)
      ]

  pub obeys : Obeys tau streams until steps
  obeys = record {
    ordered = ordered;
    by_end = by-end;
    known = known;
    start_free = λ i at id l e. fits-start at id (running tau steps i) (kept-as i (Start id at) l e).transfer;
    end_due = λ i at id l e. fits-end at id (running tau steps i) (kept-as i (End id at) l e).transfer;
    none_missing = λ i id at l r. fits-running id at (step_at steps i) (sym (ap (λ o. fits_transfer o (step_at steps i)) r) ∙ (kept i l).transfer);
    last_missing = λ id at r. true-lt until at (sym (ap (is_unfinished until) r) ∙ ends.0);
    start_asked = λ i at id l e. any-some steps i streams (and-left (any_waits steps i streams) _ (kept-as i (Start id at) l e).to_send);
    start_has = start-has-one;
    start_lowest = start-is-lowest;
    not_idle = λ i k l r w. idle-test i k (at_of (step_at steps (suc i))) (kept (suc i) l).not_idle r w;
    last_not_idle = λ i k l r w. idle-test i k until (subst (λ n. is_not_idle streams steps n (running tau steps n) until ≡ true) (sym l) ends.1) r w;
  }
