use Rattle.std.proofs.Common.{◌≡◌, ℕ, ◌+◌, ◌-◌, ◌*◌, ◌≤◌, ◌<◌, ◌⊎◌, inl, inr, List, get_or, refl, sym, ap, subst, arith, suc, zero, true, false, cond, min}
use Rattle.std.specs.Prelude.{Any, nat_lt, nat_le, ◌==◌, Option, None, Some}
use Rattle.std.specs.Option.{ForSome}
use Rattle.std.specs.List.{AllByRecursion as Each}
use Rattle.std.proofs.lemmas.Bool.{cases_lt}
use Rattle.std.proofs.lemmas.Bool.Decides.{nat_tests}
use Rattle.cop_bus.specs.Run.{Instance, Runs, Waits}
use Rattle.cop_bus.proofs.Totals.{total, total-grows, total-one, Pairs, Pairs-map, Each-map2}

-- tests and what they tell
pub le-true : (a b : ℕ) → a ≤ b → nat_le a b ≡ true
le-true a b h = grind (arith, nat_tests)

pub le-false : (a b : ℕ) → b < a → nat_le a b ≡ false
le-false a b h = grind (arith, nat_tests)

pub lt-true : (a b : ℕ) → a < b → nat_lt a b ≡ true
lt-true a b h = grind (arith, nat_tests)

pub lt-false : (a b : ℕ) → b ≤ a → nat_lt a b ≡ false
lt-false a b h = grind (arith, nat_tests)

pub eq-true : (a b : ℕ) → a ≡ b → (a == b) ≡ true
eq-true a b h = grind (arith, nat_tests)

pub true-le : (a b : ℕ) → nat_le a b ≡ true → a ≤ b
true-le a b h = grind (arith, nat_tests)

pub true-lt : (a b : ℕ) → nat_lt a b ≡ true → a < b
true-lt a b h = grind (arith, nat_tests)

pub true-eq : (a b : ℕ) → (a == b) ≡ true → a ≡ b
true-eq a b h = grind (arith, nat_tests)

-- the ticks of a transfer before a moment
abbrev pub ticks_of : Option ℕ → ℕ → ℕ → ℕ
ticks_of None n t = 0
ticks_of (Some s) n t = min (t - s) n

abbrev pub done : ℕ → ℕ → Instance → ℕ
done tau t y = ticks_of y.start (y.bits * tau) t

pub start_cases : (o : Option ℕ) → (o ≡ None) ⊎ ((s : ℕ) × (o ≡ Some s))
start_cases None = inl refl
start_cases (Some s) = inr (s, refl)

pub done-none : (tau t : ℕ) (y : Instance) → y.start ≡ None → done tau t y ≡ 0
done-none tau t y e = ap (λ o. ticks_of o (y.bits * tau) t) e

pub done-some : (tau t : ℕ) (y : Instance) (s : ℕ) → y.start ≡ Some s → done tau t y ≡ min (t - s) (y.bits * tau)
done-some tau t y s e = ap (λ o. ticks_of o (y.bits * tau) t) e

pub done-le : (tau t : ℕ) (y : Instance) → done tau t y ≤ y.bits * tau
done-le tau t y = elim (start_cases y.start) [
  | inl e ↦ (let d = done-none tau t y e in omega arith)
  | inr w ↦ (let d = done-some tau t y w.0 w.1 in omega arith)
]

pub done-grows : (tau t : ℕ) (y : Instance) → done tau t y ≤ done tau (suc t) y
done-grows tau t y = elim (start_cases y.start) [
  | inl e ↦ (let d = done-none tau t y e in omega arith)
  | inr w ↦ (let d = done-some tau t y w.0 w.1 in let d' = done-some tau (suc t) y w.0 w.1 in omega arith)
]

-- it has not started before t
pub done-unstarted : (tau t : ℕ) (y : Instance) → ForSome y.start (λ s. t ≤ s) → done tau t y ≡ 0
done-unstarted tau t y h = elim (start_cases y.start) [
  | inl e ↦ done-none tau t y e
  | inr w ↦ (let d = done-some tau t y w.0 w.1 in let l = h w.0 w.1 in omega arith)
]

pub done-runs : (tau t : ℕ) (y : Instance) → Runs tau y t → suc (done tau t y) ≤ done tau (suc t) y
done-runs tau t y r = let d = done-some tau t y r.0 r.1 in let d' = done-some tau (suc t) y r.0 r.1 in let l = r.2 in let k = r.3 in omega arith

-- a window in which a transfer runs at each tick is worked through
pub covered : (tau lo n : ℕ) (run : List Instance) → ((u : ℕ) → lo ≤ u → u < lo + n → Any (λ y. Runs tau y u) run) →
    total (done tau lo) run + n ≤ total (done tau (lo + n)) run
covered tau lo zero run h = let e : lo + 0 ≡ lo = omega arith in rw e (omega arith)
covered tau lo (suc n) run h =
    let e : lo + suc n ≡ suc (lo + n) = omega arith in
    let r = covered tau lo n run (λ u a b. h u a (omega arith)) in
    let w = h (lo + n) (omega arith) (omega arith) in
    let runs : Runs tau (get_or run w.0 w.1) (lo + n) = subst (λ y. Runs tau y (lo + n)) (sym w.3) w.4 in
    let g = total-grows (done tau (lo + n)) (done tau (suc (lo + n))) run w.0 w.1 w.2 (done-grows tau (lo + n)) (done-runs tau (lo + n) (get_or run w.0 w.1) runs) in
    rw e (omega arith)

-- the work of identifiers up to top, and that of the others
abbrev pub upper : ℕ → (Instance → ℕ) → Instance → ℕ
upper top f y = cond (nat_le y.id top) (f y) 0

abbrev pub lower : ℕ → (Instance → ℕ) → Instance → ℕ
lower top f y = cond (nat_le y.id top) 0 (f y)

-- the length of what is queued before t
abbrev pub asked : ℕ → ℕ → Instance → ℕ
asked tau t y = cond (nat_lt y.queued t) (y.bits * tau) 0

pub upper-is : (top : ℕ) (f : Instance → ℕ) (y : Instance) → y.id ≤ top → upper top f y ≡ f y
upper-is top f y h = ap (λ b. cond b (f y) 0) (le-true y.id top h)

pub upper-not : (top : ℕ) (f : Instance → ℕ) (y : Instance) → top < y.id → upper top f y ≡ 0
upper-not top f y h = ap (λ b. cond b (f y) 0) (le-false y.id top h)

pub lower-is : (top : ℕ) (f : Instance → ℕ) (y : Instance) → top < y.id → lower top f y ≡ f y
lower-is top f y h = ap (λ b. cond b 0 (f y)) (le-false y.id top h)

pub lower-not : (top : ℕ) (f : Instance → ℕ) (y : Instance) → y.id ≤ top → lower top f y ≡ 0
lower-not top f y h = ap (λ b. cond b 0 (f y)) (le-true y.id top h)

pub asked-is : (tau t : ℕ) (y : Instance) → y.queued < t → asked tau t y ≡ y.bits * tau
asked-is tau t y h = ap (λ b. cond b (y.bits * tau) 0) (lt-true y.queued t h)

pub asked-not : (tau t : ℕ) (y : Instance) → t ≤ y.queued → asked tau t y ≡ 0
asked-not tau t y h = ap (λ b. cond b (y.bits * tau) 0) (lt-false y.queued t h)

-- where more is asked for than done, some instance is queued by then, and waits or is being sent
pub pending : (tau top u : ℕ) (y : Instance) → upper top (done tau (suc u)) y < upper top (asked tau (suc u)) y →
    (y.id ≤ top) × (Waits y u ⊎ Runs tau y u)
pending tau top u y h = elim (cases_lt top y.id) [
  | inl a ↦ (let e = upper-not top (asked tau (suc u)) y a in absurd (omega arith))
  | inr a ↦ (let e = upper-is top (asked tau (suc u)) y a in let d = upper-is top (done tau (suc u)) y a in elim (cases_lt y.queued (suc u)) [
    | inr b ↦ (let f = asked-not tau (suc u) y b in absurd (omega arith))
    | inl b ↦ (let f = asked-is tau (suc u) y b in elim (start_cases y.start) [
      | inl n ↦ (a, inl (omega arith, λ s g. absurd (cc)))
      | inr w ↦ (let d' = done-some tau (suc u) y w.0 w.1 in elim (cases_lt w.0 u) [
        | inl l ↦ (a, inr (w.0, w.1, omega arith, omega arith))
        | inr l ↦ (a, inl (omega arith, λ s g. subst (λ o. ForSome o (λ s. u ≤ s)) (sym w.1) (λ s' g'. let q : w.0 ≡ s' = cc in omega arith) s g))
      ])
    ])
  ])
]

-- the last moment, not after n, at which a is at most b
pub last_within : (a b : ℕ → ℕ) → a 0 ≤ b 0 → (n : ℕ) → (t : ℕ) × (t ≤ n) × (a t ≤ b t) × ((u : ℕ) → t < u → u ≤ n → b u < a u)
last_within a b h zero = (0, omega arith, h, λ u l k. absurd (omega arith))
last_within a b h (suc n) = go (cases_lt (b (suc n)) (a (suc n))) (last_within a b h n)
  where
    go : (b (suc n) < a (suc n)) ⊎ (a (suc n) ≤ b (suc n)) →
        (t : ℕ) × (t ≤ n) × (a t ≤ b t) × ((u : ℕ) → t < u → u ≤ n → b u < a u) →
        (t : ℕ) × (t ≤ suc n) × (a t ≤ b t) × ((u : ℕ) → t < u → u ≤ suc n → b u < a u)
    go (inr l) r = (suc n, omega arith, l, λ u k m. absurd (omega arith))
    go (inl l) r = (r.0, omega (arith, r.1), r.2, λ u k m. elim (cases_lt u (suc n)) [ inl s ↦ r.3 u k (omega arith) | inr s ↦ (let e : suc n ≡ u = omega arith in subst (λ v. b v < a v) e l) ])

-- of the lower ones at most one is at work in a window in which none starts
pub low-block : (tau top most lo n : ℕ) (run : List Instance) →
    Each (λ y. top < y.id → y.bits * tau ≤ most) run →
    Each (λ y. top < y.id → ForSome y.start (λ s. lo ≤ s → lo + n ≤ s)) run →
    Pairs (λ y z. (x : ℕ) → Runs tau y x → Runs tau z x → ⊥) run →
    total (lower top (done tau (lo + n))) run ≤ total (lower top (done tau lo)) run + most
low-block tau top most lo n run short none apart =
    total-one (lower top (done tau lo)) (lower top (done tau (lo + n))) (λ y. Runs tau y lo) most run
    (Each-map2 (λ y. top < y.id → y.bits * tau ≤ most) (λ y. top < y.id → ForSome y.start (λ s. lo ≤ s → lo + n ≤ s)) (λ y. (lower top (done tau (lo + n)) y ≤ lower top (done tau lo) y) ⊎ (Runs tau y lo × (lower top (done tau (lo + n)) y ≤ lower top (done tau lo) y + most))) run one short none)
    (Pairs-map (λ y z. (x : ℕ) → Runs tau y x → Runs tau z x → ⊥) (λ y z. Runs tau y lo → Runs tau z lo → ⊥) run (λ y z h. h lo) apart)
  where
    one : (y : Instance) → (top < y.id → y.bits * tau ≤ most) → (top < y.id → ForSome y.start (λ s. lo ≤ s → lo + n ≤ s)) →
        (lower top (done tau (lo + n)) y ≤ lower top (done tau lo) y) ⊎ (Runs tau y lo × (lower top (done tau (lo + n)) y ≤ lower top (done tau lo) y + most))
    one y short none = elim (cases_lt top y.id) [
      | inr a ↦ (let e = lower-not top (done tau (lo + n)) y a in inl (omega arith))
      | inl a ↦ (let e = lower-is top (done tau (lo + n)) y a in let f = lower-is top (done tau lo) y a in elim (start_cases y.start) [
        | inl b ↦ (let d = done-none tau (lo + n) y b in inl (omega arith))
        | inr w ↦ (let d = done-some tau (lo + n) y w.0 w.1 in let d' = done-some tau lo y w.0 w.1 in elim (cases_lt w.0 lo) [
          | inr l ↦ (let g = none a w.0 w.1 l in inl (omega arith))
          | inl l ↦ elim (cases_lt lo (w.0 + y.bits * tau)) [
            | inl k ↦ (let g = short a in inr ((w.0, w.1, omega arith, k), omega arith))
            | inr k ↦ inl (omega arith)
          ]
        ])
      ])
    ]
