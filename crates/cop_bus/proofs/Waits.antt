-- The identifiers of which an instance waits.
use Rattle.std.proofs.Common.{◌≡◌, ◌∙◌, ℕ, ◌≤◌, ◌<◌, ◌⊎◌, inl, inr, suc, List, [], ◌∷◌, refl, sym, ap, subst, Bool, true, false, cond, ◌==◌, ◌||◌, ◌&&◌, nat_lt, arith, length, Some}
use Rattle.std.specs.Prelude.{is_some, slice_index}
use Rattle.std.specs.Cmp.{nat_cmp_is}
use Rattle.std.specs.declared.cmp.Ordering.TheVariants.{Greater}
use Rattle.std.specs.List.{list_any}
use Rattle.std.specs.BTreeMap.{is_at}
use Rattle.std.specs.BTreeSet.{BTreeSet, contains, IsLowerBound}
use Rattle.std.specs.Ordering.{nat_cmp, is_gt}
use Rattle.std.proofs.lemmas.Bool.{cases_lt}
use Rattle.cop_rta.specs.declared.streams.Stream.{Stream}
use Rattle.cop_bus.specs.declared.steps.Step.{Step}
use Rattle.cop_bus.specs.declared.steps.Step.TheVariants.{Queue, Start, End}
use Rattle.cop_bus.specs.Trace.{is_queue, is_start, count_to, step_at}
use Rattle.cop_bus.specs.Judge.{id_of, stream_of, waits_after, any_waits, lower_waits}
use Rattle.cop_bus.specs.Tables.{IsWaiting, IsUnsent, is_queue_or_start}
use Rattle.cop_bus.proofs.StepLemmas.{bool_cases, count_to-zero}
use Rattle.cop_bus.proofs.Work.{lt-true, lt-false, true-eq}
use Rattle.cop_bus.proofs.Places.{count-same, place-waits}

or-right : (a b : Bool) → b ≡ true → (a || b) ≡ true
or-right true b e = refl
or-right false b e = e

or-neither : (a b : Bool) → a ≡ false → b ≡ false → (a || b) ≡ false
or-neither a b e f = cc

and-not_right : (a b : Bool) → b ≡ false → (a && b) ≡ false
and-not_right true b e = e
and-not_right false b e = refl

and-both : (a b : Bool) → a ≡ true → b ≡ true → (a && b) ≡ true
and-both a b e f = cc

pub any-none : (steps : List Step) (i : ℕ) (streams : List Stream) → ((id : ℕ) → waits_after steps i id ≡ false) → any_waits steps i streams ≡ false
any-none steps i [] h = refl
any-none steps i (k ∷ ks) h = or-neither (waits_after steps i k.id) (any_waits steps i ks) (h k.id) (any-none steps i ks h)

pub any-one : (steps : List Step) (i id : ℕ) (streams : List Stream) → waits_after steps i id ≡ true → is_some (stream_of streams id) ≡ true → any_waits steps i streams ≡ true
any-one steps i id [] w h = absurd (cc)
any-one steps i id (k ∷ ks) w h = elim (bool_cases (k.id == id)) [
  | inl t ↦ (let e : waits_after steps i k.id ≡ true = ap (waits_after steps i) (true-eq k.id id t) ∙ w in ap (λ b. b || any_waits steps i ks) e)
  | inr f ↦ (let g : is_some (stream_of ks id) ≡ true = sym (ap (λ b. is_some (cond b (Some k) (stream_of ks id))) f) ∙ h in
      or-right (waits_after steps i k.id) (any_waits steps i ks) (any-one steps i id ks w g))
]

pub lower-none : (steps : List Step) (i id : ℕ) (streams : List Stream) → ((k : ℕ) → k < id → waits_after steps i k ≡ false) → lower_waits steps i id streams ≡ false
lower-none steps i id [] h = refl
lower-none steps i id (k ∷ ks) h = or-neither (nat_lt k.id id && waits_after steps i k.id) (lower_waits steps i id ks) (here (cases_lt k.id id)) (lower-none steps i id ks h)
  where
    here : ((k.id < id) ⊎ (id ≤ k.id)) → (nat_lt k.id id && waits_after steps i k.id) ≡ false
    here (inl l) = and-not_right (nat_lt k.id id) (waits_after steps i k.id) (h k.id l)
    here (inr l) = ap (λ b. b && waits_after steps i k.id) (lt-false k.id id l)

pub lower-one : (steps : List Step) (i id n : ℕ) (streams : List Stream) → n < id → waits_after steps i n ≡ true → is_some (stream_of streams n) ≡ true → lower_waits steps i id streams ≡ true
lower-one steps i id n [] l w h = absurd (cc)
lower-one steps i id n (k ∷ ks) l w h = elim (bool_cases (k.id == n)) [
  | inl t ↦ (let q = true-eq k.id n t in
      let e : waits_after steps i k.id ≡ true = ap (waits_after steps i) q ∙ w in
      ap (λ b. b || lower_waits steps i id ks) (and-both (nat_lt k.id id) (waits_after steps i k.id) (lt-true k.id id (omega arith)) e))
  | inr f ↦ (let g : is_some (stream_of ks n) ≡ true = sym (ap (λ b. is_some (cond b (Some k) (stream_of ks n))) f) ∙ h in
      or-right (nat_lt k.id id && waits_after steps i k.id) (lower_waits steps i id ks) (lower-one steps i id n ks l w g))
]

not-above : (k j : ℕ) → j < k → is_gt (nat_cmp k j) ≡ false → ⊥
not-above k j l g = let e = ap is_gt (nat_cmp_is k j Greater l) in absurd (cc)

-- what an empty set has, and what one that has identifiers says of the instances
pub has-none : (waiting : BTreeSet ℕ) → (0 < length waiting.keys → ⊥) → (id : ℕ) → contains nat_cmp waiting id ≡ false
has-none waiting h id = go waiting.keys h
  where
    go : (ks : List ℕ) → (0 < length ks → ⊥) → list_any (is_at (nat_cmp id)) ks ≡ false
    go [] n = refl
    go (k ∷ ks) n = absurd (n (omega arith))

module _ (streams : List Stream) (steps : List Step) (i : ℕ) (waiting : BTreeSet ℕ) (h : IsWaiting streams steps i waiting) where
  pub some-waits : (k : ℕ) → contains nat_cmp waiting k ≡ true → true ≡ any_waits steps i streams
  some-waits k c = let w = sym (h.those k) ∙ c in sym (any-one steps i k streams w (h.known k w))

  pub none-waits : (0 < length waiting.keys → ⊥) → false ≡ any_waits steps i streams
  none-waits n = sym (any-none steps i streams (λ k. sym (h.those k) ∙ has-none waiting n k))

  pub lower-waits : (k id : ℕ) → contains nat_cmp waiting k ≡ true → IsLowerBound nat_cmp waiting k → nat_lt k id ≡ lower_waits steps i id streams
  lower-waits k id c b = elim (cases_lt k id) [
    | inl l ↦ (let w = sym (h.those k) ∙ c in lt-true k id l ∙ sym (lower-one steps i id k streams l w (h.known k w)))
    | inr l ↦ lt-false k id l ∙ sym (lower-none steps i id streams (λ j m. elim (bool_cases (waits_after steps i j)) [
      | inr f ↦ f
      | inl t ↦ (let g = b j (h.those j ∙ t) in absurd (not-above k j (omega arith) g))
    ]))
  ]

  pub none-lower : (id : ℕ) → (0 < length waiting.keys → ⊥) → false ≡ lower_waits steps i id streams
  none-lower id n = sym (lower-none steps i id streams (λ k l. sym (h.those k) ∙ has-none waiting n k))

-- before the first step none waits
pub waiting-start : (streams : List Stream) (steps : List Step) (waiting : BTreeSet ℕ) → ((id : ℕ) → contains nat_cmp waiting id ≡ false) → IsWaiting streams steps 0 waiting
waiting-start streams steps waiting h = record {
  those = λ id. h id ∙ sym (none id);
  known = λ id w. (let n = none id in absurd (cc));
}
  where
    none : (id : ℕ) → waits_after steps 0 id ≡ false
    none id = (let a = count_to-zero (is_start id) steps in let b = count_to-zero (is_queue id) steps in
        lt-false (count_to (is_start id) steps 0) (count_to (is_queue id) steps 0) (omega arith))

-- what is known of a step that queues or sends an instance of a stream, and of one that does neither
its-own : (k : ℕ) (x : Step) → is_queue_or_start k x ≡ true → k ≡ id_of x
its-own k (Queue id at event frame) e = sym (true-eq id k e)
its-own k (Start id at) e = sym (true-eq id k e)
its-own k (End id at) e = absurd (cc)

no-queue : (k : ℕ) (x : Step) → is_queue_or_start k x ≡ false → is_queue k x ≡ false
no-queue k (Queue id at event frame) e = e
no-queue k (Start id at) e = refl
no-queue k (End id at) e = refl

no-start : (k : ℕ) (x : Step) → is_queue_or_start k x ≡ false → is_start k x ≡ false
no-start k (Queue id at event frame) e = refl
no-start k (Start id at) e = e
no-start k (End id at) e = refl

-- a step that queues or sends an instance of a stream of the set changes what waits of that stream alone
pub waiting-step : (streams : List Stream) (steps : List Step) (i : ℕ) (unsent : List ℕ) (waiting next : BTreeSet ℕ) → i < length steps → id_of (step_at steps i) < 65536 →
    is_some (stream_of streams (id_of (step_at steps i))) ≡ true → IsUnsent steps (suc i) unsent →
    ((k : ℕ) → contains nat_cmp next k ≡ cond (is_queue_or_start k (step_at steps i)) (nat_lt (slice_index unsent k) (suc i)) (contains nat_cmp waiting k)) →
    IsWaiting streams steps i waiting → IsWaiting streams steps (suc i) next
waiting-step streams steps i unsent waiting next l f s u n h = record {
  those = λ k. elim (bool_cases (is_queue_or_start k (step_at steps i))) [
    | inl e ↦ n k ∙ ap (λ b. cond b (nat_lt (slice_index unsent k) (suc i)) (contains nat_cmp waiting k)) e
        ∙ place-waits steps (suc i) k (slice_index unsent k) (omega arith) (u.places k (subst (λ j. j < 65536) (sym (its-own k (step_at steps i) e)) f))
    | inr e ↦ n k ∙ ap (λ b. cond b (nat_lt (slice_index unsent k) (suc i)) (contains nat_cmp waiting k)) e ∙ h.those k ∙ sym (same k e)
  ];
  known = λ k w. elim (bool_cases (is_queue_or_start k (step_at steps i))) [
    | inl e ↦ ap (λ v. is_some (stream_of streams v)) (its-own k (step_at steps i) e) ∙ s
    | inr e ↦ h.known k (sym (same k e) ∙ w)
  ];
}
  where
    same : (k : ℕ) → is_queue_or_start k (step_at steps i) ≡ false → waits_after steps (suc i) k ≡ waits_after steps i k
    same k e = ap (λ v. nat_lt v (count_to (is_queue k) steps (suc i))) (count-same (is_start k) steps i l (no-start k (step_at steps i) e))
        ∙ ap (nat_lt (count_to (is_start k) steps i)) (count-same (is_queue k) steps i l (no-queue k (step_at steps i) e))
