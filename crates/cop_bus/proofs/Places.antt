use Rattle.std.proofs.Common.{◌≡◌, ℕ, ◌≤◌, ◌<◌, ◌⊎◌, inl, inr, List, length, refl, sym, ◌∙◌, ap, subst, arith, suc, zero, Bool, true, false, cond, nat_lt, replicate}
use Rattle.std.specs.Prelude.{Option, None, Some, slice_set, slice_index, slice_index_or, ◌==◌}
use Rattle.std.proofs.lemmas.Bool.{cases_lt}
use Rattle.std.proofs.lemmas.List.{get_or-set_same, get_or-set_other, length-set, get_or-replicate, length-replicate}
use Rattle.cop_bus.specs.declared.steps.Step.{Step}
use Rattle.cop_bus.specs.declared.steps.Content.{Content}
use Rattle.cop_bus.specs.declared.steps.Step.TheVariants.{Queue, Start, End}
use Rattle.cop_bus.specs.Trace.{is_queue, is_start, count_to, nth_that, step_at}
use Rattle.cop_bus.specs.Judge.{id_of, waits_after, last_event, event_or}
use Rattle.cop_bus.specs.Tables.{IsPlace, IsAhead, IsNext, IsUnsent, IsLinked, IsLast, ahead_after, next_after, unsent_after, last_after}
use Rattle.cop_bus.proofs.StepLemmas.{nth_that-some, nth_that-at, nth_before, count_to-past, count_to-suc, count_to-zero, one-true, one-false, bool_cases, is_queue-of, is_start-of}
use Rattle.cop_bus.proofs.Work.{lt-true, lt-false, eq-true, true-eq}

pub option_cases : (o : Option Step) → (o ≡ None) ⊎ ((x : Step) × (o ≡ Some x))
option_cases None = inl refl
option_cases (Some x) = inr (x, refl)

-- what stands at a place is what has its number
pub place-some : (p : Step → Bool) (steps : List Step) (j a : ℕ) → IsPlace p steps j a → a < length steps → nth_that p j steps ≡ Some (step_at steps a)
place-some p steps j a h l = ap (λ n. nth_that p n steps) (sym (h.number l)) ∙ nth_that-at p steps a l (h.passes l)

pub place-none : (p : Step → Bool) (steps : List Step) (j a : ℕ) → IsPlace p steps j a → length steps ≤ a → nth_that p j steps ≡ None
place-none p steps j a h l = elim (option_cases (nth_that p j steps)) [
  | inl e ↦ e
  | inr w ↦ (let n = nth_that-some p j steps w.0 w.1 in
      let v : p (step_at steps n.0) ≡ true = subst (λ y. p y ≡ true) (sym n.2) n.3 in
      let m = count_to-past p steps n.0 (length steps) n.1 n.1 v in
      let k = h.none l in
      absurd (omega (arith, m, k, n.4)))
]

-- an instance waits where the place of its stream's first unsent one has been passed
pub place-waits : (steps : List Step) (i k a : ℕ) → i ≤ length steps → IsPlace (is_queue k) steps (count_to (is_start k) steps i) a → nat_lt a i ≡ waits_after steps i k
place-waits steps i k a l h = elim (cases_lt a i) [
  | inl s ↦ (let n = h.number (omega arith) in
      let m = count_to-past (is_queue k) steps a i s (omega arith) (h.passes (omega arith)) in
      lt-true a i s ∙ sym (lt-true (count_to (is_start k) steps i) (count_to (is_queue k) steps i) (omega (arith, n, m))))
  | inr s ↦ (let f : count_to (is_queue k) steps i ≤ count_to (is_start k) steps i = elim (cases_lt (count_to (is_start k) steps i) (count_to (is_queue k) steps i)) [
    | inr g ↦ g
    | inl g ↦ (let b = nth_before (is_queue k) steps i (count_to (is_start k) steps i) g in elim (cases_lt a (length steps)) [
      | inl t ↦ (let m = count_to-past (is_queue k) steps b.0 a (omega (arith, b.1)) b.2 b.3 in let n = h.number t in absurd (omega (arith, m, n, b.4)))
      | inr t ↦ (let m = count_to-past (is_queue k) steps b.0 (length steps) b.2 b.2 b.3 in let n = h.none t in absurd (omega (arith, m, n, b.4)))
    ])
  ] in
      lt-false a i s ∙ sym (lt-false (count_to (is_start k) steps i) (count_to (is_queue k) steps i) f))
]

pub count-same : (p : Step → Bool) (steps : List Step) (i : ℕ) → i < length steps → p (step_at steps i) ≡ false → count_to p steps (suc i) ≡ count_to p steps i
count-same p steps i l e = let s = count_to-suc p steps i l in let c = one-false (p (step_at steps i)) e in omega (arith, s, c)

pub count-more : (p : Step → Bool) (steps : List Step) (i : ℕ) → i < length steps → p (step_at steps i) ≡ true → count_to p steps (suc i) ≡ suc (count_to p steps i)
count-more p steps i l e = let s = count_to-suc p steps i l in let c = one-true (p (step_at steps i)) e in omega (arith, s, c)

pub place-at : (p : Step → Bool) (steps : List Step) (j k a : ℕ) → j ≡ k → IsPlace p steps j a → IsPlace p steps k a
place-at p steps j k a e h = subst (λ n. IsPlace p steps n a) e h

pub place-here : (p : Step → Bool) (steps : List Step) (i : ℕ) → i < length steps → p (step_at steps i) ≡ true → IsPlace p steps (count_to p steps i) i
place-here p steps i l e = record { within = omega arith; passes = λ _. e; number = λ _. refl; none = λ m. absurd (omega arith) }

pub place-end : (p : Step → Bool) (steps : List Step) → IsPlace p steps (count_to p steps (length steps)) (length steps)
place-end p steps = record { within = omega arith; passes = λ m. absurd (omega arith); number = λ m. absurd (omega arith); none = λ _. omega arith }

-- an entry after another is written
pub set-same : (xs : List ℕ) (i k v : ℕ) → i ≡ k → i < length xs → slice_index (slice_set xs i v) k ≡ v
set-same xs i k v e l = ap (λ n. slice_index (slice_set xs i v) n) (sym e) ∙ get_or-set_same xs i v 0 l

pub set-other : (xs : List ℕ) (i k v : ℕ) → (k ≡ i → ⊥) → slice_index (slice_set xs i v) k ≡ slice_index xs k
set-other xs i k v e = get_or-set_other xs i k v 0 e

pub eq_cases : (a b : ℕ) → (a ≡ b) ⊎ (a ≡ b → ⊥)
eq_cases a b = elim (cases_lt a b) [
  | inl l ↦ inr (λ e. omega arith)
  | inr l ↦ elim (cases_lt b a) [ inl m ↦ inr (λ e. omega arith) | inr m ↦ inl (omega arith) ]
]

pub not-eq : (a b : ℕ) → (a ≡ b → ⊥) → (a == b) ≡ false
not-eq a b h = elim (bool_cases (a == b)) [ inl t ↦ absurd (h (true-eq a b t)) | inr f ↦ f ]

pub not-queue : (k id at event : ℕ) (frame : Content) (x : Step) → x ≡ Queue id at event frame → (k ≡ id → ⊥) → is_queue k x ≡ false
not-queue k id at event frame x e n = ap (is_queue k) e ∙ not-eq id k (λ f. n (sym f))

-- The tables before a step from those after it.
pub ahead-step : (steps : List Step) (i : ℕ) (ahead next : List ℕ) (x : Step) → i < length steps → step_at steps i ≡ x → id_of x < 65536 →
    IsAhead steps (suc i) ahead → IsNext steps (suc i) next → IsAhead steps i (ahead_after x i ahead) × IsNext steps i (next_after x i ahead next)
ahead-step steps i ahead next (Queue id at event frame) l e i_fits h n =
    let q : is_queue id (step_at steps i) ≡ true = is_queue-of id (step_at steps i) at event frame e in (
      record {
        ids = length-set ahead id i ∙ h.ids;
        places = λ k m. elim (eq_cases k id) [
          | inl s ↦ (let p = place-here (is_queue k) steps i l (subst (λ n. is_queue n (step_at steps i) ≡ true) (sym s) q) in
              let v = set-same ahead id k i (sym s) (omega (arith, h.ids)) in
              subst (IsPlace (is_queue k) steps (count_to (is_queue k) steps i)) (sym v) p)
          | inr s ↦ (let v = set-other ahead id k i s in
              let c = count-same (is_queue k) steps i l (not-queue k id at event frame (step_at steps i) e s) in
              subst (IsPlace (is_queue k) steps (count_to (is_queue k) steps i)) (sym v) (place-at (is_queue k) steps _ _ _ c (h.places k m)))
        ];
      },
      record {
        steps_long = length-set next i (slice_index ahead id) ∙ n.steps_long;
        places = λ a k f m o. elim (eq_cases a i) [
          | inr s ↦ (let v = set-other next i a (slice_index ahead id) s in subst (IsPlace (is_queue k) steps (suc (count_to (is_queue k) steps a))) (sym v) (n.places a k (omega arith) m o))
          | inl s ↦ (let o' : is_queue k (Queue id at event frame) ≡ true = sym (ap (is_queue k) (ap (step_at steps) s ∙ e)) ∙ o in
              let t : id ≡ k = true-eq id k o' in
              let v = set-same next i a (slice_index ahead id) (sym s) (omega (arith, n.steps_long)) in
              let c = count-more (is_queue id) steps i l q in
              let p : IsPlace (is_queue id) steps (suc (count_to (is_queue id) steps i)) (slice_index ahead id) = place-at (is_queue id) steps _ _ _ c (h.places id i_fits) in
              subst (IsPlace (is_queue k) steps (suc (count_to (is_queue k) steps a))) (sym v)
              (subst (λ b. IsPlace (is_queue k) steps (suc (count_to (is_queue k) steps b)) (slice_index ahead id)) (sym s)
              (subst (λ j. IsPlace (is_queue j) steps (suc (count_to (is_queue j) steps i)) (slice_index ahead id)) t p)))
        ];
      },
    )
ahead-step steps i ahead next (Start id at) l e i_fits h n = (
  record { ids = h.ids; places = λ k m. place-at (is_queue k) steps _ _ _ (count-same (is_queue k) steps i l (ap (is_queue k) e)) (h.places k m) },
  record {
    steps_long = n.steps_long;
    places = λ a k f m o. elim (eq_cases a i) [
      | inr s ↦ n.places a k (omega arith) m o
      | inl s ↦ (let o' : is_queue k (Start id at) ≡ true = sym (ap (is_queue k) (ap (step_at steps) s ∙ e)) ∙ o in absurd (cc))
    ];
  },
)
ahead-step steps i ahead next (End id at) l e i_fits h n = (
  record { ids = h.ids; places = λ k m. place-at (is_queue k) steps _ _ _ (count-same (is_queue k) steps i l (ap (is_queue k) e)) (h.places k m) },
  record {
    steps_long = n.steps_long;
    places = λ a k f m o. elim (eq_cases a i) [
      | inr s ↦ n.places a k (omega arith) m o
      | inl s ↦ (let o' : is_queue k (End id at) ≡ true = sym (ap (is_queue k) (ap (step_at steps) s ∙ e)) ∙ o in absurd (cc))
    ];
  },
)

-- The tables before the first step, and after the last.
pub ahead-end : (steps : List Step) (ahead : List ℕ) → ahead ≡ replicate 65536 (length steps) → IsAhead steps (length steps) ahead
ahead-end steps ahead e = record {
  ids = ap length e ∙ length-replicate 65536 (length steps);
  places = λ id l. (let v : slice_index ahead id ≡ length steps = ap (λ xs. slice_index xs id) e ∙ get_or-replicate 65536 id (length steps) 0 l in
      subst (IsPlace (is_queue id) steps (count_to (is_queue id) steps (length steps))) (sym v) (place-end (is_queue id) steps));
}

pub next-end : (steps : List Step) (next : List ℕ) → next ≡ replicate (length steps) (length steps) → IsNext steps (length steps) next
next-end steps next e = record {
  steps_long = ap length e ∙ length-replicate (length steps) (length steps);
  places = λ a id l m o. absurd (omega arith);
}

pub none-all : (n k : ℕ) (xs : List (Option ℕ)) → xs ≡ replicate n None → slice_index_or xs k None ≡ None
none-all n k xs e = ap (λ ys. slice_index_or ys k None) e ∙ go n k
  where
    go : (n k : ℕ) → slice_index_or (replicate {A = Option ℕ} n None) k None ≡ None
    go zero k = refl
    go (suc n) zero = refl
    go (suc n) (suc k) = go n k

pub last-start : (steps : List Step) (last : List (Option ℕ)) → last ≡ replicate 65536 None → IsLast steps 0 last
last-start steps last e = record { ids = ap length e ∙ length-replicate {A = Option ℕ} 65536 None; events = λ id l. none-all 65536 id last e }

pub unsent-start : (steps : List Step) (ahead : List ℕ) → IsAhead steps 0 ahead → IsUnsent steps 0 ahead
unsent-start steps ahead h = record {
  ids = h.ids;
  places = λ id l. place-at (is_queue id) steps _ _ _ (count_to-zero (is_queue id) steps ∙ sym (count_to-zero (is_start id) steps)) (h.places id l);
}

-- a start takes the place on to the next
pub unsent-step : (steps : List Step) (i : ℕ) (links unsent : List ℕ) (x : Step) → i < length steps → step_at steps i ≡ x → id_of x < 65536 →
    ((at id : ℕ) → x ≡ Start id at → slice_index unsent id < length steps) → IsLinked steps i links → IsUnsent steps i unsent → IsUnsent steps (suc i) (unsent_after x links unsent)
unsent-step steps i links unsent (Queue id at event frame) l e f some n h =
    record { ids = h.ids; places = λ k m. place-at (is_queue k) steps _ _ _ (sym (count-same (is_start k) steps i l (ap (is_start k) e))) (h.places k m) }
unsent-step steps i links unsent (End id at) l e f some n h =
    record { ids = h.ids; places = λ k m. place-at (is_queue k) steps _ _ _ (sym (count-same (is_start k) steps i l (ap (is_start k) e))) (h.places k m) }
unsent-step steps i links unsent (Start id at) l e f some n h = record {
  ids = length-set unsent id (slice_index links (slice_index unsent id)) ∙ h.ids;
  places = λ k m. elim (eq_cases k id) [
    | inr s ↦ (let v = set-other unsent id k (slice_index links (slice_index unsent id)) s in
        let g : is_start k (step_at steps i) ≡ false = ap (is_start k) e ∙ not-eq id k (λ r. s (sym r)) in
        subst (IsPlace (is_queue k) steps (count_to (is_start k) steps (suc i))) (sym v) (place-at (is_queue k) steps _ _ _ (sym (count-same (is_start k) steps i l g)) (h.places k m)))
    | inl s ↦ (let v = set-same unsent id k (slice_index links (slice_index unsent id)) (sym s) (omega (arith, h.ids)) in
        let p = h.places id f in
        let b = some at id refl in
        let m = p.number b in
        let q = n.unsent (slice_index unsent id) id b (p.passes b) (omega arith) in
        let g : is_start id (step_at steps i) ≡ true = is_start-of id (step_at steps i) at e in
        let c : suc (count_to (is_queue id) steps (slice_index unsent id)) ≡ count_to (is_start id) steps (suc i) = ap suc m ∙ sym (count-more (is_start id) steps i l g) in
        subst (IsPlace (is_queue k) steps (count_to (is_start k) steps (suc i))) (sym v)
        (subst (λ j. IsPlace (is_queue j) steps (count_to (is_start j) steps (suc i)) (slice_index links (slice_index unsent id))) (sym s)
        (place-at (is_queue id) steps _ _ _ c q)))
  ];
}

pub last-step : (steps : List Step) (i : ℕ) (last : List (Option ℕ)) (x : Step) → step_at steps i ≡ x → id_of x < 65536 → IsLast steps i last → IsLast steps (suc i) (last_after x last)
last-step steps i last (Start id at) e f h = record { ids = h.ids; events = λ k m. h.events k m ∙ sym (ap (λ y. event_or k y (last_event k steps i)) e) }
last-step steps i last (End id at) e f h = record { ids = h.ids; events = λ k m. h.events k m ∙ sym (ap (λ y. event_or k y (last_event k steps i)) e) }
last-step steps i last (Queue id at event frame) e f h = record {
  ids = length-set last id (Some event) ∙ h.ids;
  events = λ k m. elim (eq_cases k id) [
    | inl s ↦ (ap (λ j. slice_index_or (slice_set last id (Some event)) j None) s ∙ get_or-set_same last id (Some event) None (omega (arith, h.ids))
        ∙ sym (ap (λ b. cond b (Some event) (last_event k steps i)) (eq-true id k (sym s))) ∙ sym (ap (λ y. event_or k y (last_event k steps i)) e))
    | inr s ↦ (get_or-set_other last id k (Some event) None s ∙ h.events k m
        ∙ sym (ap (λ b. cond b (Some event) (last_event k steps i)) (not-eq id k (λ r. s (sym r)))) ∙ sym (ap (λ y. event_or k y (last_event k steps i)) e))
  ];
}

-- a start that breaks no rule has an instance to send
pub sends-some : (steps : List Step) (i : ℕ) (unsent : List ℕ) (id : ℕ) (x : Step) → id < 65536 → IsUnsent steps i unsent → nth_that (is_queue id) (count_to (is_start id) steps i) steps ≡ Some x → slice_index unsent id < length steps
sends-some steps i unsent id x f h e = elim (cases_lt (slice_index unsent id) (length steps)) [
  | inl l ↦ l
  | inr l ↦ (let n = place-none (is_queue id) steps _ (slice_index unsent id) (h.places id f) l in absurd (cc))
]
