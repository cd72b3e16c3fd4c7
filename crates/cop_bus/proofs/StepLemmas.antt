use Rattle.std.proofs.Common.{◌≡◌, ℕ, ◌+◌, ◌-◌, ◌*◌, ◌≤◌, ◌<◌, ◌⊎◌, inl, inr, List, [], ◌∷◌, length, refl, sym, ◌∙◌, ap, subst, arith, suc, zero, Bool, true, false, cond}
use Rattle.std.specs.Prelude.{Contains, Option, None, Some}
use Rattle.std.proofs.lemmas.Bool.{cases_lt}
use Rattle.std.proofs.lemmas.List.Elements.{All-from_recursion, All-contains}
use Rattle.std.specs.List.{AllByRecursion as Each}
use Rattle.cop_bus.specs.Run.{Instance}
use Rattle.cop_bus.specs.declared.steps.Step.{Step}
use Rattle.cop_bus.specs.declared.steps.Content.{Content}
use Rattle.cop_bus.specs.Trace.{at_of, rank_of, is_queue, is_start, count_to, nth_that, step_at, moment_of, bits_of, after, running, instance, instances_from}
use Rattle.cop_bus.specs.declared.steps.Step.TheVariants.{Queue, Start, End}
use Rattle.cop_bus.proofs.Totals.{Pairs, Contains-head, Contains-tail}
use Rattle.cop_bus.proofs.Work.{true-eq, eq-true}

pub one-true : (b : Bool) → b ≡ true → cond {A = ℕ} b 1 0 ≡ 1
one-true b e = ap (λ v. cond {A = ℕ} v 1 0) e

pub one-false : (b : Bool) → b ≡ false → cond {A = ℕ} b 1 0 ≡ 0
one-false b e = ap (λ v. cond {A = ℕ} v 1 0) e

-- one more step
pub count_to-suc : (p : Step → Bool) (xs : List Step) (i : ℕ) → i < length xs → count_to p xs (suc i) ≡ count_to p xs i + cond (p (step_at xs i)) 1 0
count_to-suc p [] i l = absurd (omega arith)
count_to-suc p (x ∷ []) zero l = omega arith
count_to-suc p (x ∷ (y ∷ ys)) zero l = omega arith
count_to-suc p (x ∷ xs) (suc i) l = let r : count_to p xs (suc i) ≡ count_to p xs i + cond (p (step_at xs i)) 1 0 = count_to-suc p xs i (omega arith) in omega arith

-- a count does not fall
pub count_to-le : (p : Step → Bool) (xs : List Step) (i j : ℕ) → i ≤ j → count_to p xs i ≤ count_to p xs j
count_to-le p [] i j l = omega arith
count_to-le p (x ∷ xs) zero j l = omega arith
count_to-le p (x ∷ xs) (suc i) zero l = absurd (omega arith)
count_to-le p (x ∷ xs) (suc i) (suc j) l = let r = count_to-le p xs i j (omega arith) in omega arith

-- and grows past one that passes
pub count_to-past : (p : Step → Bool) (xs : List Step) (i j : ℕ) → i < j → i < length xs → p (step_at xs i) ≡ true → count_to p xs i < count_to p xs j
count_to-past p xs i j l k e =
    let a = count_to-suc p xs i k in
    let b = count_to-le p xs (suc i) j (omega arith) in
    let c = one-true (p (step_at xs i)) e in
    omega arith

-- number j stands where j pass before it
pub nth_that-some : (p : Step → Bool) (j : ℕ) (xs : List Step) (x : Step) → nth_that p j xs ≡ Some x →
    (b : ℕ) × (b < length xs) × (step_at xs b ≡ x) × (p x ≡ true) × (count_to p xs b ≡ j)
nth_that-some p j [] x e = absurd (cc)
nth_that-some p zero (y ∷ ys) x e = go (p y) refl e (nth_that-some p zero ys x)
  where
    go : (v : Bool) → p y ≡ v → cond v (Some y) (nth_that p zero ys) ≡ Some x →
        (nth_that p zero ys ≡ Some x → (b : ℕ) × (b < length ys) × (step_at ys b ≡ x) × (p x ≡ true) × (count_to p ys b ≡ zero)) →
        (b : ℕ) × (b < suc (length ys)) × (step_at (y ∷ ys) b ≡ x) × (p x ≡ true) × (count_to p (y ∷ ys) b ≡ zero)
    go true f g ih = let s : y ≡ x = cc in (0, omega arith, s, subst (λ z. p z ≡ true) s f, refl)
    go false f g ih = let r = ih g in
        let c = one-false (p y) f in (suc r.0, omega (arith, r.1), r.2, r.3, omega (arith, c, r.4))
nth_that-some p (suc j) (y ∷ ys) x e = go (p y) refl e (nth_that-some p j ys x) (nth_that-some p (suc j) ys x)
  where
    go : (v : Bool) → p y ≡ v → cond v (nth_that p j ys) (nth_that p (suc j) ys) ≡ Some x →
        (nth_that p j ys ≡ Some x → (b : ℕ) × (b < length ys) × (step_at ys b ≡ x) × (p x ≡ true) × (count_to p ys b ≡ j)) →
        (nth_that p (suc j) ys ≡ Some x → (b : ℕ) × (b < length ys) × (step_at ys b ≡ x) × (p x ≡ true) × (count_to p ys b ≡ suc j)) →
        (b : ℕ) × (b < suc (length ys)) × (step_at (y ∷ ys) b ≡ x) × (p x ≡ true) × (count_to p (y ∷ ys) b ≡ suc j)
    go true f g ih ih' = let r = ih g in
        let c = one-true (p y) f in (suc r.0, omega (arith, r.1), r.2, r.3, omega (arith, c, r.4))
    go false f g ih ih' = let r = ih' g in
        let c = one-false (p y) f in (suc r.0, omega (arith, r.1), r.2, r.3, omega (arith, c, r.4))

pub nth_that-skip : (p : Step → Bool) (x : Step) (xs : List Step) (n : ℕ) → p x ≡ false → nth_that p n (x ∷ xs) ≡ nth_that p n xs
nth_that-skip p x xs zero e = ap (λ v. cond v (Some x) (nth_that p zero xs)) e
nth_that-skip p x xs (suc n) e = ap (λ v. cond v (nth_that p n xs) (nth_that p (suc n) xs)) e

pub nth_that-take : (p : Step → Bool) (x : Step) (xs : List Step) (n : ℕ) → p x ≡ true → nth_that p (suc n) (x ∷ xs) ≡ nth_that p n xs
nth_that-take p x xs n e = ap (λ v. cond v (nth_that p n xs) (nth_that p (suc n) xs)) e

pub bool_cases : (b : Bool) → (b ≡ true) ⊎ (b ≡ false)
bool_cases true = inl refl
bool_cases false = inr refl

-- what passes is the one of its number
pub nth_that-at : (p : Step → Bool) (xs : List Step) (b : ℕ) → b < length xs → p (step_at xs b) ≡ true → nth_that p (count_to p xs b) xs ≡ Some (step_at xs b)
nth_that-at p [] b l e = absurd (omega arith)
nth_that-at p (x ∷ xs) zero l e = ap (λ v. cond v (Some x) (nth_that p zero xs)) e
nth_that-at p (x ∷ xs) (suc b) l e =
    let ih : nth_that p (count_to p xs b) xs ≡ Some (step_at xs b) = nth_that-at p xs b (omega arith) e in
    elim (bool_cases (p x)) [
      | inl t ↦ (let c = one-true (p x) t in let n : count_to p (x ∷ xs) (suc b) ≡ suc (count_to p xs b) = omega arith in
          ap (λ k. nth_that p k (x ∷ xs)) n ∙ nth_that-take p x xs (count_to p xs b) t ∙ ih)
      | inr f ↦ (let c = one-false (p x) f in let n : count_to p (x ∷ xs) (suc b) ≡ count_to p xs b = omega arith in
          ap (λ k. nth_that p k (x ∷ xs)) n ∙ nth_that-skip p x xs (count_to p xs b) f ∙ ih)
    ]

-- where more than j pass before i, number j stands before i
pub nth_before : (p : Step → Bool) (xs : List Step) (i j : ℕ) → j < count_to p xs i →
    (b : ℕ) × (b < i) × (b < length xs) × (p (step_at xs b) ≡ true) × (count_to p xs b ≡ j)
nth_before p [] i j l = absurd (omega arith)
nth_before p (x ∷ xs) zero j l = absurd (omega arith)
nth_before p (x ∷ xs) (suc i) j l = elim (bool_cases (p x)) [
  | inr f ↦ (let c = one-false (p x) f in let r = nth_before p xs i j (omega arith) in (suc r.0, omega (arith, r.1), omega (arith, r.2), r.3, omega (arith, r.4)))
  | inl t ↦ (let c = one-true (p x) t in elim (cases_lt 0 j) [
    | inr z ↦ (0, omega arith, omega arith, t, omega arith)
    | inl z ↦ (let r = nth_before p xs i (j - 1) (omega arith) in (suc r.0, omega (arith, r.1), omega (arith, r.2), r.3, omega (arith, r.4)))
  ])
]

-- the shape of a step that passes
pub queue_shape : (k : ℕ) (x : Step) → is_queue k x ≡ true → (at : ℕ) × (event : ℕ) × (frame : Content) × (x ≡ Queue k at event frame)
queue_shape k (Queue id at event frame) e = (at, event, frame, ap (λ i. Queue i at event frame) (true-eq id k e))
queue_shape k (Start id at) e = absurd (cc)
queue_shape k (End id at) e = absurd (cc)

pub start_shape : (k : ℕ) (x : Step) → is_start k x ≡ true → (at : ℕ) × (x ≡ Start k at)
start_shape k (Start id at) e = (at, ap (λ i. Start i at) (true-eq id k e))
start_shape k (Queue id at event frame) e = absurd (cc)
start_shape k (End id at) e = absurd (cc)

pub is_queue-of : (k : ℕ) (x : Step) (at event : ℕ) (frame : Content) → x ≡ Queue k at event frame → is_queue k x ≡ true
is_queue-of k x at event frame e = ap (is_queue k) e ∙ eq-true k k refl

pub is_start-of : (k : ℕ) (x : Step) (at : ℕ) → x ≡ Start k at → is_start k x ≡ true
is_start-of k x at e = ap (is_start k) e ∙ eq-true k k refl

-- the rest is the steps from i on
abbrev pub IsRest : List Step → ℕ → List Step → Type 0
IsRest steps i rest = (k : ℕ) → step_at rest k ≡ step_at steps (i + k)

pub rest_head : (steps : List Step) (i : ℕ) (x : Step) (rest : List Step) → IsRest steps i (x ∷ rest) → step_at steps i ≡ x
rest_head steps i x rest same = let e : i + 0 ≡ i = omega arith in sym (subst (λ n. x ≡ step_at steps n) e (same 0))

pub rest_tail : (steps : List Step) (i : ℕ) (x : Step) (rest : List Step) → IsRest steps i (x ∷ rest) → IsRest steps (suc i) rest
rest_tail steps i x rest same k = let e : i + suc k ≡ suc i + k = omega arith in subst (λ n. step_at rest k ≡ step_at steps n) e (same (suc k))

-- what holds of the instance of each step that queues one
pub each_instance : (steps : List Step) (i : ℕ) (rest : List Step) → IsRest steps i rest → (P : Instance → Type 0) →
    ((a at id event : ℕ) (frame : Content) → i ≤ a → a < i + length rest → step_at steps a ≡ Queue id at event frame → P (instance steps a at id event frame)) →
    Each P (instances_from steps i rest)
each_instance steps i [] same P h = tt
each_instance steps i (Queue id at event frame ∷ rest) same P h = (
  h i at id event frame (omega arith) (omega arith) (rest_head steps i (Queue id at event frame) rest same),
  each_instance steps (suc i) rest (rest_tail steps i (Queue id at event frame) rest same) P (λ a at id event frame l k. h a at id event frame (omega arith) (omega arith)),
)
each_instance steps i (Start id at ∷ rest) same P h = each_instance steps (suc i) rest (rest_tail steps i (Start id at) rest same) P (λ a at id event frame l k. h a at id event frame (omega arith) (omega arith))
each_instance steps i (End id at ∷ rest) same P h = each_instance steps (suc i) rest (rest_tail steps i (End id at) rest same) P (λ a at id event frame l k. h a at id event frame (omega arith) (omega arith))

-- what holds of the instances of each two steps
pub pairs_instances : (steps : List Step) (i : ℕ) (rest : List Step) → IsRest steps i rest → (R : Instance → Instance → Type 0) →
    ((a at id event : ℕ) (frame : Content) (b at' id' event' : ℕ) (frame' : Content) → a < b → b < i + length rest → step_at steps a ≡ Queue id at event frame → step_at steps b ≡ Queue id' at' event' frame' →
    R (instance steps a at id event frame) (instance steps b at' id' event' frame')) →
    Pairs R (instances_from steps i rest)
pairs_instances steps i [] same R h = tt
pairs_instances steps i (Queue id at event frame ∷ rest) same R h = (
  each_instance steps (suc i) rest (rest_tail steps i (Queue id at event frame) rest same) (R (instance steps i at id event frame))
      (λ b at' id' event' frame' l k. h i at id event frame b at' id' event' frame' (omega arith) (omega arith) (rest_head steps i (Queue id at event frame) rest same)),
  pairs_instances steps (suc i) rest (rest_tail steps i (Queue id at event frame) rest same) R (λ a at id event frame b at' id' event' frame' l k. h a at id event frame b at' id' event' frame' (omega arith) (omega arith)),
)
pairs_instances steps i (Start id at ∷ rest) same R h = pairs_instances steps (suc i) rest (rest_tail steps i (Start id at) rest same) R (λ a at id event frame b at' id' event' frame' l k. h a at id event frame b at' id' event' frame' (omega arith) (omega arith))
pairs_instances steps i (End id at ∷ rest) same R h = pairs_instances steps (suc i) rest (rest_tail steps i (End id at) rest same) R (λ a at id event frame b at' id' event' frame' l k. h a at id event frame b at' id' event' frame' (omega arith) (omega arith))

-- the instance of a step that queues one is there
pub instance_in : (steps : List Step) (i : ℕ) (rest : List Step) → IsRest steps i rest → (a at id event : ℕ) (frame : Content) → i ≤ a → a < i + length rest → step_at steps a ≡ Queue id at event frame →
    Contains (instances_from steps i rest) (instance steps a at id event frame)
instance_in steps i [] same a at id event frame l k e = absurd (omega arith)
instance_in steps i (x ∷ rest) same a at id event frame l k e = elim (cases_lt i a) [
  | inl n ↦ past x (instance_in steps (suc i) rest (rest_tail steps i x rest same) a at id event frame (omega arith) (omega arith) e)
  | inr n ↦ (let q : a ≡ i = omega arith in
      let f : x ≡ Queue id at event frame = sym (rest_head steps i x rest same) ∙ sym (ap (step_at steps) q) ∙ e in
      subst (λ y. Contains (instances_from steps i (y ∷ rest)) (instance steps a at id event frame)) (sym f)
      (subst (λ n. Contains (instance steps i at id event frame ∷ instances_from steps (suc i) rest) (instance steps n at id event frame)) (sym q) (Contains-head (instance steps i at id event frame) (instances_from steps (suc i) rest))))
]
  where
    past : (y : Step) → Contains (instances_from steps (suc i) rest) (instance steps a at id event frame) → Contains (instances_from steps i (y ∷ rest)) (instance steps a at id event frame)
    past (Queue id' at' event' frame') c = Contains-tail (instance steps i at' id' event' frame') (instance steps a at id event frame) (instances_from steps (suc i) rest) c
    past (Start id' at') c = c
    past (End id' at') c = c

pub same_some : {X : Type 0} (a b : X) → Some a ≡ Some b → a ≡ b
same_some a b e = cc

pub moment-some : (o : Option Step) (s : ℕ) → moment_of o ≡ Some s → (x : Step) × (o ≡ Some x) × (at_of x ≡ s)
moment-some None s e = absurd (cc)
moment-some (Some x) s e = (x, refl, same_some (at_of x) s e)

-- the end of the transfer that starts at step number b
abbrev pub end_at : ℕ → List Step → ℕ → ℕ → ℕ → ℕ
end_at tau steps b at id = at + bits_of (nth_that (is_queue id) (count_to (is_start id) steps b) steps) * tau

-- what runs was started, and since then instances were queued alone
pub running_started : (tau : ℕ) (steps : List Step) (i id e : ℕ) → i ≤ length steps → running tau steps i ≡ Some (id, e) →
    (b : ℕ) × (at : ℕ) × (b < i) × (step_at steps b ≡ Start id at) × (e ≡ end_at tau steps b at id) × ((c : ℕ) → b < c → c < i → rank_of (step_at steps c) ≡ 1)
running_started tau steps zero id e l h = absurd (cc)
running_started tau steps (suc i) id e l h = go (step_at steps i) refl h (running_started tau steps i id e (omega arith))
  where
    go : (x : Step) → step_at steps i ≡ x → after tau steps i x (running tau steps i) ≡ Some (id, e) →
        (running tau steps i ≡ Some (id, e) → (b : ℕ) × (at : ℕ) × (b < i) × (step_at steps b ≡ Start id at) × (e ≡ end_at tau steps b at id) × ((c : ℕ) → b < c → c < i → rank_of (step_at steps c) ≡ 1)) →
        (b : ℕ) × (at : ℕ) × (b < suc i) × (step_at steps b ≡ Start id at) × (e ≡ end_at tau steps b at id) × ((c : ℕ) → b < c → c < suc i → rank_of (step_at steps c) ≡ 1)
    go (Queue k at event frame) q g ih = let r = ih g in (
      r.0,
      r.1,
      omega (arith, r.2),
      r.3,
      r.4,
      λ c l m. elim (cases_lt c i) [
        | inl v ↦ r.5 c l v
        | inr v ↦ (let w : i ≡ c = omega arith in ap rank_of (sym (ap (step_at steps) w) ∙ q))
      ],
    )
    go (Start k at) q g ih =
        let p = same_some (k, end_at tau steps i at k) (id, e) g in
        let a : k ≡ id = ap (λ v. v.0) p in
        let b : end_at tau steps i at k ≡ e = ap (λ v. v.1) p in
        (i, at, omega arith, q ∙ ap (λ n. Start n at) a, sym b ∙ ap (λ n. end_at tau steps i at n) a, λ c l m. absurd (omega arith))
    go (End k at) q g ih = absurd (cc)

-- the end of the transfer of the instance that has the start's number
pub end_there : (tau : ℕ) (steps : List Step) (a b q id event : ℕ) (frame : Content) (at : ℕ) → a < length steps → step_at steps a ≡ Queue id q event frame → count_to (is_queue id) steps a ≡ count_to (is_start id) steps b →
    end_at tau steps b at id ≡ at + frame.bits * tau
end_there tau steps a b q id event frame at l h e =
    let n = nth_that-at (is_queue id) steps a l (is_queue-of id (step_at steps a) q event frame h) in
    let f : nth_that (is_queue id) (count_to (is_start id) steps b) steps ≡ Some (Queue id q event frame) = ap (λ j. nth_that (is_queue id) j steps) (sym e) ∙ n ∙ ap Some h in
    ap (λ o. at + bits_of o * tau) f

-- an instance that starts does so at a start that has its number
pub started-at : (steps : List Step) (a q id event : ℕ) (frame : Content) (s : ℕ) → (instance steps a q id event frame).start ≡ Some s →
    (b : ℕ) × (b < length steps) × (step_at steps b ≡ Start id s) × (count_to (is_start id) steps b ≡ count_to (is_queue id) steps a)
started-at steps a q id event frame s e =
    let m = moment-some (nth_that (is_start id) (count_to (is_queue id) steps a) steps) s e in
    let n = nth_that-some (is_start id) (count_to (is_queue id) steps a) steps m.0 m.1 in
    let h = start_shape id m.0 n.3 in
    let t : h.0 ≡ s = sym (ap at_of h.1) ∙ m.2 in
    (n.0, n.1, n.2 ∙ h.1 ∙ ap (λ v. Start id v) t, n.4)

-- the instance that has the number of a start starts there
pub starts-there : (steps : List Step) (a b q at id event : ℕ) (frame : Content) → b < length steps → step_at steps b ≡ Start id at → count_to (is_queue id) steps a ≡ count_to (is_start id) steps b →
    (instance steps a q id event frame).start ≡ Some at
starts-there steps a b q at id event frame l h e =
    ap moment_of (ap (λ j. nth_that (is_start id) j steps) e ∙ nth_that-at (is_start id) steps b l (is_start-of id (step_at steps b) at h) ∙ ap Some h)

pub in-steps : (steps : List Step) → IsRest steps 0 steps
in-steps steps i = ap (step_at steps) (let e : i ≡ 0 + i = omega arith in e)

-- what holds of each two of the instances holds of those of two steps
pub pairs_at : (steps : List Step) (i : ℕ) (rest : List Step) → IsRest steps i rest → (R : Instance → Instance → Type 0) → Pairs R (instances_from steps i rest) →
    (a q id event : ℕ) (frame : Content) (b q' id' event' : ℕ) (frame' : Content) → i ≤ a → a < b → b < i + length rest → step_at steps a ≡ Queue id q event frame → step_at steps b ≡ Queue id' q' event' frame' →
    R (instance steps a q id event frame) (instance steps b q' id' event' frame')
pairs_at steps i [] same R h a q id event frame b q' id' event' frame' l m k e f = absurd (omega arith)
pairs_at steps i (x ∷ rest) same R h a q id event frame b q' id' event' frame' l m k e f = elim (cases_lt i a) [
  | inl n ↦ pairs_at steps (suc i) rest (rest_tail steps i x rest same) R (rest_pairs x h) a q id event frame b q' id' event' frame' (omega arith) m (omega arith) e f
  | inr n ↦ (let v : a ≡ i = omega arith in
      let g : x ≡ Queue id q event frame = sym (rest_head steps i x rest same) ∙ sym (ap (step_at steps) v) ∙ e in
      let h' : Pairs R (instance steps i q id event frame ∷ instances_from steps (suc i) rest) = subst (λ y. Pairs R (instances_from steps i (y ∷ rest))) g h in
      let c = instance_in steps (suc i) rest (rest_tail steps i x rest same) b q' id' event' frame' (omega arith) (omega arith) f in
      let r : R (instance steps i q id event frame) (instance steps b q' id' event' frame') =
      All-contains (R (instance steps i q id event frame)) (instances_from steps (suc i) rest) (instance steps b q' id' event' frame')
      (All-from_recursion (R (instance steps i q id event frame)) (instances_from steps (suc i) rest) h'.0) c in
      subst (λ n. R (instance steps n q id event frame) (instance steps b q' id' event' frame')) (sym v) r)
]
  where
    rest_pairs : (y : Step) → Pairs R (instances_from steps i (y ∷ rest)) → Pairs R (instances_from steps (suc i) rest)
    rest_pairs (Queue k at' event' frame') p = p.1
    rest_pairs (Start k at') p = p
    rest_pairs (End k at') p = p

pub count_to-zero : (p : Step → Bool) (xs : List Step) → count_to p xs 0 ≡ 0
count_to-zero p [] = refl
count_to-zero p (x ∷ xs) = refl
