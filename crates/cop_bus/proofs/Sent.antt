-- The links of the steps that queue instances.
use Rattle.std.proofs.Common.{◌≡◌, ℕ, ◌≤◌, ◌<◌, inl, inr, List, length, refl, sym, ◌∙◌, ap, subst, arith, suc, Bool, true, false}
use Rattle.std.specs.Prelude.{Option, None, Some, slice_set, slice_index, ◌==◌}
use Rattle.std.proofs.lemmas.Bool.{cases_lt}
use Rattle.std.proofs.lemmas.List.{length-set}
use Rattle.std.proofs.lemmas.Option.{slice_get-get_or, slice_get_past}
use Rattle.cop_rta.specs.declared.streams.Stream.{Stream}
use Rattle.cop_bus.specs.declared.steps.Step.{Step}
use Rattle.cop_bus.specs.declared.steps.Step.TheVariants.{Queue, Start, End}
use Rattle.cop_bus.specs.Trace.{is_queue, is_start, count_to, nth_that, moment_of, step_at, no_step, at_of}
use Rattle.cop_bus.specs.Judge.{id_of, stream_of}
use Rattle.cop_bus.specs.Late.{IsSent, is_late, sent_at, start_of, start_at}
use Rattle.cop_bus.specs.Tables.{IsPlace, IsNext, IsUnsent, IsLinked, links_after}
use Rattle.cop_bus.proofs.StepLemmas.{count_to-past, count_to-suc, count_to-zero, queue_shape, is_queue-of, is_start-of}
use Rattle.cop_bus.proofs.Places.{eq_cases, not-eq, count-same, count-more, place-at, place-here, place-some, place-none, set-same, set-other}
use Rattle.cop_bus.proofs.Work.{true-eq}
use Rattle.cop_bus.proofs.LateLemmas.{late_at}

-- a step queues an instance of one stream, and the instances of a stream have different numbers
pub same-queue : (x : Step) (k id : ℕ) → is_queue k x ≡ true → is_queue id x ≡ true → k ≡ id
same-queue x k id q r =
    let s = queue_shape k x q in
    let t : (k == id) ≡ true = sym (ap (is_queue id) s.3) ∙ r in
    true-eq k id t

pub same-place : (steps : List Step) (id a b : ℕ) → a < length steps → b < length steps → is_queue id (step_at steps a) ≡ true → is_queue id (step_at steps b) ≡ true →
    count_to (is_queue id) steps a ≡ count_to (is_queue id) steps b → a ≡ b
same-place steps id a b l m q r e = elim (cases_lt a b) [
  | inl s ↦ (let c = count_to-past (is_queue id) steps a b s l q in absurd (omega arith))
  | inr s ↦ elim (cases_lt b a) [
    | inl t ↦ (let c = count_to-past (is_queue id) steps b a t m r in absurd (omega arith))
    | inr t ↦ omega arith
  ]
]

-- before the first step none is sent
pub linked-start : (steps : List Step) (links : List ℕ) → IsNext steps 0 links → IsLinked steps 0 links
linked-start steps links h = record {
  steps_long = h.steps_long;
  sent = λ a id l q s. (let n = count_to-zero (is_start id) steps in absurd (omega (arith, n, s)));
  unsent = λ a id l q s. h.places a id (omega arith) l q;
}

-- a step that sends nothing leaves the links as they are
linked-same : (steps : List Step) (i : ℕ) (links : List ℕ) → i < length steps → ((id : ℕ) → is_start id (step_at steps i) ≡ false) → IsLinked steps i links → IsLinked steps (suc i) links
linked-same steps i links l e h = record {
  steps_long = h.steps_long;
  sent = λ a id m q s. (let c = count-same (is_start id) steps i l (e id) in h.sent a id m q (omega (arith, c, s)));
  unsent = λ a id m q s. (let c = count-same (is_start id) steps i l (e id) in h.unsent a id m q (omega (arith, c, s)));
}

-- a start is linked to the first unsent instance of its stream
module _ (steps : List Step) (i : ℕ) (unsent links : List ℕ) (at id : ℕ) (low : i < length steps) (is : step_at steps i ≡ Start id at) (fits : id < 65536)
    (some : slice_index unsent id < length steps) (u : IsUnsent steps i unsent) (h : IsLinked steps i links) where
  here : is_queue id (step_at steps (slice_index unsent id)) ≡ true
  here = (u.places id fits).passes some

  number : count_to (is_queue id) steps (slice_index unsent id) ≡ count_to (is_start id) steps i
  number = (u.places id fits).number some

  starts : is_start id (step_at steps i) ≡ true
  starts = is_start-of id (step_at steps i) at is

  more : count_to (is_start id) steps (suc i) ≡ suc (count_to (is_start id) steps i)
  more = count-more (is_start id) steps i low starts

  -- it is of no other stream, and so is what it sends
  others : (k : ℕ) → (k ≡ id → ⊥) → count_to (is_start k) steps (suc i) ≡ count_to (is_start k) steps i
  others k n = count-same (is_start k) steps i low (ap (is_start k) is ∙ not-eq id k (λ e. n (sym e)))

  -- the instance that is sent
  its : (a k : ℕ) → a ≡ slice_index unsent id → is_queue k (step_at steps a) ≡ true → k ≡ id
  its a k e q = same-queue (step_at steps a) k id q (subst (λ b. is_queue id (step_at steps b) ≡ true) (sym e) here)

  -- another instance is sent before, or comes later
  before : (a k : ℕ) → a < length steps → (a ≡ slice_index unsent id → ⊥) → is_queue k (step_at steps a) ≡ true → count_to (is_queue k) steps a < count_to (is_start k) steps (suc i)
      → count_to (is_queue k) steps a < count_to (is_start k) steps i
  before a k l n q s = elim (eq_cases k id) [
    | inr o ↦ (let e = others k o in omega (arith, e, s))
    | inl e ↦ subst (λ j. is_queue j (step_at steps a) ≡ true → count_to (is_queue j) steps a < count_to (is_start j) steps (suc i) → count_to (is_queue j) steps a < count_to (is_start j) steps i) (sym e) own q s
  ]
    where
      own : is_queue id (step_at steps a) ≡ true → count_to (is_queue id) steps a < count_to (is_start id) steps (suc i) → count_to (is_queue id) steps a < count_to (is_start id) steps i
      own q s = elim (eq_cases (count_to (is_queue id) steps a) (count_to (is_start id) steps i)) [
        | inl e ↦ absurd (n (same-place steps id a (slice_index unsent id) l some q here (e ∙ sym number)))
        | inr o ↦ elim (cases_lt (count_to (is_queue id) steps a) (count_to (is_start id) steps i)) [
          | inl b ↦ b
          | inr b ↦ absurd (o (omega (arith, more, s, b)))
        ]
      ]

  later : (a k : ℕ) → count_to (is_start k) steps (suc i) ≤ count_to (is_queue k) steps a → count_to (is_start k) steps i ≤ count_to (is_queue k) steps a
  later a k s = let c = count_to-suc (is_start k) steps i low in omega (arith, c, s)

  -- what the table then has for it
  linked : (slice_index (slice_set links (slice_index unsent id) i) (slice_index unsent id) < length steps)
      × IsPlace (is_start id) steps (count_to (is_queue id) steps (slice_index unsent id)) (slice_index (slice_set links (slice_index unsent id) i) (slice_index unsent id))
  linked =
      let v = set-same links (slice_index unsent id) (slice_index unsent id) i refl (omega (arith, h.steps_long, some)) in
      rw v (low, place-at (is_start id) steps _ _ _ (sym number) (place-here (is_start id) steps i low starts))

  pub linked-by_start : IsLinked steps (suc i) (slice_set links (slice_index unsent id) i)
  linked-by_start = record {
    steps_long = length-set links (slice_index unsent id) i ∙ h.steps_long;
    sent = λ a k l q s. elim (eq_cases a (slice_index unsent id)) [
      | inl e ↦ subst (λ j. (slice_index (slice_set links (slice_index unsent id) i) a < length steps) × IsPlace (is_start j) steps (count_to (is_queue j) steps a) (slice_index (slice_set links (slice_index unsent id) i) a)) (sym (its a k e q))
          (subst (λ b. (slice_index (slice_set links (slice_index unsent id) i) b < length steps) × IsPlace (is_start id) steps (count_to (is_queue id) steps b) (slice_index (slice_set links (slice_index unsent id) i) b)) (sym e) linked)
      | inr n ↦ rw (set-other links (slice_index unsent id) a i n) (h.sent a k l q (before a k l n q s))
    ];
    unsent = λ a k l q s. elim (eq_cases a (slice_index unsent id)) [
      | inl e ↦ absurd (sent-already a k e q s)
      | inr n ↦ rw (set-other links (slice_index unsent id) a i n) (h.unsent a k l q (later a k s))
    ];
  }
    where
      sent-already : (a k : ℕ) → a ≡ slice_index unsent id → is_queue k (step_at steps a) ≡ true → count_to (is_start k) steps (suc i) ≤ count_to (is_queue k) steps a → ⊥
      sent-already a k e q s =
          let own : count_to (is_start id) steps (suc i) ≤ count_to (is_queue id) steps (slice_index unsent id) =
          subst (λ b. count_to (is_start id) steps (suc i) ≤ count_to (is_queue id) steps b) e (subst (λ j. count_to (is_start j) steps (suc i) ≤ count_to (is_queue j) steps a) (its a k e q) s) in
          omega (arith, own, number, more)

pub linked-step : (steps : List Step) (i : ℕ) (unsent links : List ℕ) (x : Step) → i < length steps → step_at steps i ≡ x → id_of x < 65536 →
    ((at id : ℕ) → x ≡ Start id at → slice_index unsent id < length steps) → IsUnsent steps i unsent → IsLinked steps i links → IsLinked steps (suc i) (links_after x i unsent links)
linked-step steps i unsent links (Queue id at event frame) l e f some u h = linked-same steps i links l (λ k. ap (is_start k) e) h
linked-step steps i unsent links (End id at) l e f some u h = linked-same steps i links l (λ k. ap (is_start k) e) h
linked-step steps i unsent links (Start id at) l e f some u h = linked-by_start steps i unsent links at id l e f (some at id refl) u h

-- ---- what the links say after the last step

start-of : (id : ℕ) (x : Step) → is_start id x ≡ true → start_of (Some x) ≡ Some (at_of x)
start-of id (Start k at) e = refl
start-of id (Queue k at event frame) e = absurd (cc)
start-of id (End k at) e = absurd (cc)

no-start : (id : ℕ) (x : Step) → is_queue id x ≡ true → start_of (Some x) ≡ None
no-start id (Queue k at event frame) e = refl
no-start id (Start k at) e = absurd (cc)
no-start id (End k at) e = absurd (cc)

sends : (steps : List Step) (id j p : ℕ) → p < length steps → IsPlace (is_start id) steps j p → start_at steps p ≡ moment_of (nth_that (is_start id) j steps)
sends steps id j p l h = ap start_of (slice_get-get_or steps p no_step l) ∙ start-of id (step_at steps p) (h.passes l) ∙ sym (ap moment_of (place-some (is_start id) steps j p h l))

sends-nothing : (steps : List Step) (id j p : ℕ) → IsPlace (is_queue id) steps j p → start_at steps p ≡ None
sends-nothing steps id j p h = elim (cases_lt p (length steps)) [
  | inl l ↦ ap start_of (slice_get-get_or steps p no_step l) ∙ no-start id (step_at steps p) (h.passes l)
  | inr l ↦ ap start_of (slice_get_past steps p l)
]

never-sent : (steps : List Step) (id j : ℕ) → count_to (is_start id) steps (length steps) ≤ j → nth_that (is_start id) j steps ≡ None
never-sent steps id j h = place-none (is_start id) steps j (length steps) (record { within = omega arith; passes = λ l. absurd (omega arith); number = λ l. absurd (omega arith); none = λ _. h }) (omega arith)

pub linked-all : (steps : List Step) (i : ℕ) (links : List ℕ) → i ≡ length steps → IsLinked steps i links → IsSent steps links
linked-all steps i links e h = record {
  steps_long = h.steps_long;
  moments = λ a id l q. elim (cases_lt (count_to (is_queue id) steps a) (count_to (is_start id) steps i)) [
    | inl s ↦ (let p = h.sent a id l q s in sends steps id (count_to (is_queue id) steps a) (slice_index links a) p.0 p.1)
    | inr s ↦ sends-nothing steps id (suc (count_to (is_queue id) steps a)) (slice_index links a) (h.unsent a id l q s)
        ∙ sym (ap moment_of (never-sent steps id (count_to (is_queue id) steps a) (subst (λ n. count_to (is_start id) steps n ≤ count_to (is_queue id) steps a) e s)))
  ];
}

-- the start that a step is linked to serves as the one that is looked up
pub late-by_table : (tau : ℕ) (streams : List Stream) (until : ℕ) (steps : List Step) (links : List ℕ) (i : ℕ) (id : ℕ) (o : Option Stream) (b : Bool) → IsSent steps links → i < length steps →
    id ≡ id_of (step_at steps i) → o ≡ stream_of streams id → b ≡ is_late tau until o (start_at steps (slice_index links i)) (step_at steps i) → b ≡ late_at tau streams until steps i
late-by_table tau streams until steps links i id o b h l e f g = go (step_at steps i) refl o (f ∙ ap (stream_of streams) e) g
  where
    go : (x : Step) → step_at steps i ≡ x → (o : Option Stream) → o ≡ stream_of streams (id_of (step_at steps i)) → b ≡ is_late tau until o (start_at steps (slice_index links i)) (step_at steps i) → b ≡ late_at tau streams until steps i
    go x s o f g = g ∙ same x s o ∙ ap (λ v. is_late tau until v (sent_at steps i (id_of (step_at steps i))) (step_at steps i)) f
      where
        same : (x : Step) → step_at steps i ≡ x → (o : Option Stream) → is_late tau until o (start_at steps (slice_index links i)) (step_at steps i) ≡ is_late tau until o (sent_at steps i (id_of (step_at steps i))) (step_at steps i)
        same x s None = refl
        same (Start k at) s (Some m) = ap (is_late tau until (Some m) (start_at steps (slice_index links i))) s ∙ sym (ap (is_late tau until (Some m) (sent_at steps i (id_of (step_at steps i)))) s)
        same (End k at) s (Some m) = ap (is_late tau until (Some m) (start_at steps (slice_index links i))) s ∙ sym (ap (is_late tau until (Some m) (sent_at steps i (id_of (step_at steps i)))) s)
        same (Queue k at event frame) s (Some m) =
            let q = h.moments i k l (is_queue-of k (step_at steps i) at event frame s) in
            let r : k ≡ id_of (step_at steps i) = sym (ap id_of s) in
            ap (λ v. is_late tau until (Some m) v (step_at steps i)) (q ∙ ap (sent_at steps i) r)
