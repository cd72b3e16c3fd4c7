-- The example's run is a run with a disturbance, which is rare, and the instance is as late as it can be.
use Rattle.std.proofs.Common.{◌≡◌, ℕ, zero, suc, ◌+◌, ◌≤◌, ◌<◌, ◌⊎◌, inl, inr, [], ◌∷◌, refl, ap, arith, Some, slice_get, lit≤}
use Rattle.std.specs.Prelude.{All, Any}
use Rattle.std.specs.Option.{ForSome}
use Rattle.std.proofs.lemmas.Bool.{cases_lt}
use Rattle.std.proofs.lemmas.List.Elements.{All-from_recursion}
use Rattle.cop_frame.proofs.LengthLemmas.{least_bits-frame, worst_bits-frame}
use Rattle.cop_bus.specs.Run.{Runs, Waits, HasLengthOf, IsKnown, IsSentBefore}
use Rattle.cop_bus.proofs.Totals.{AllPairs-from_Pairs, Contains-head}
use Rattle.cop_errors.specs.Errors.{Disturbance, HitRuns, AreRare, IsDisturbed}
use Rattle.cop_errors.specs.Example.{one_pdo, one_hit, one_instance}
use Rattle.cop_errors.proofs.Lists.{any_of}

waits_at : (x : ℕ) → Waits one_instance x → x ≤ 2656
waits_at x w = w.1 2656 refl

runs_since : (x : ℕ) → Runs 16 one_instance x → 2656 ≤ x
runs_since x r = let s : 2656 ≡ r.0 = (let e = r.1 in cc) in omega (arith, s, r.2)

pub example_disturbed : IsDisturbed 16 (one_pdo ∷ []) 5000 (one_instance ∷ []) (one_hit ∷ [])
example_disturbed = record {
  known = All-from_recursion (IsKnown (one_pdo ∷ [])) (one_instance ∷ []) (
    record {
      some_stream = any_of (λ k. k.id ≡ 385) (one_pdo ∷ []) one_pdo (Contains-head one_pdo []) refl;
      length = All-from_recursion (λ k. k.id ≡ 385 → HasLengthOf k one_instance) (one_pdo ∷ []) (
        (λ e. record {
          not_shorter = (let l = least_bits-frame 8 (lit≤ tt) in omega (arith, l));
          not_longer = (let l = worst_bits-frame 8 (lit≤ tt) in omega (arith, l));
          same_bytes = refl;
        }),
        tt,
      );
    },
    tt,
  );
  in_order = AllPairs-from_Pairs (λ y z. y.id ≡ z.id → IsSentBefore y z) (one_instance ∷ []) (tt, tt);
  one_at_a_time = AllPairs-from_Pairs (λ y z. (x : ℕ) → Runs 16 y x → Runs 16 z x → ⊥) (one_instance ∷ []) (tt, tt);
  apart = All-from_recursion (λ y. All (λ h. (x : ℕ) → Runs 16 y x → HitRuns 16 h x → ⊥) (one_hit ∷ [])) (one_instance ∷ [])
      (All-from_recursion (λ h. (x : ℕ) → Runs 16 one_instance x → HitRuns 16 h x → ⊥) (one_hit ∷ []) ((λ x r h. (let a = runs_since x r in let b = h.1 in omega (arith, a, b))), tt), tt);
  one_hit = AllPairs-from_Pairs (λ g h. (x : ℕ) → HitRuns 16 g x → HitRuns 16 h x → ⊥) (one_hit ∷ []) (tt, tt);
  rising = AllPairs-from_Pairs (λ g h. g.start < h.start) (one_hit ∷ []) (tt, tt);
  bits = All-from_recursion (λ h. (1 ≤ h.bits) × (h.bits ≤ 166)) (one_hit ∷ []) ((lit≤ tt, lit≤ tt), tt);
  asked_for = All-from_recursion (λ y. ForSome y.start (λ s. Any (λ z. Waits z s) (one_instance ∷ []))) (one_instance ∷ []) (
    (λ s e. (let same : 2656 ≡ s = cc in any_of (λ z. Waits z s) (one_instance ∷ []) one_instance (Contains-head one_instance [])
        (omega arith, λ t f. (let other : 2656 ≡ t = cc in omega (arith, same, other))))),
    tt,
  );
  joined = All-from_recursion (λ y. ForSome y.start (λ s. y.queued < s + 16)) (one_instance ∷ []) ((λ s e. (let same : 2656 ≡ s = cc in omega (arith, same))), tt);
  by_priority = All-from_recursion (λ y. ForSome y.start (λ s. All (λ z. Waits z s → y.id ≤ z.id) (one_instance ∷ []))) (one_instance ∷ [])
      ((λ s e. All-from_recursion (λ z. Waits z s → 385 ≤ z.id) (one_instance ∷ []) ((λ w. lit≤ tt), tt)), tt);
  never_idle = λ x l. All-from_recursion (λ z. Waits z x → Any (λ y. Runs 16 y x) (one_instance ∷ []) ⊎ Any (λ h. HitRuns 16 h x) (one_hit ∷ [])) (one_instance ∷ []) (
    (λ w. (let late = waits_at x w in elim (cases_lt x 2656) [
      | inl k ↦ inr (any_of (λ h. HitRuns 16 h x) (one_hit ∷ []) one_hit (Contains-head one_hit []) (omega arith, omega (arith, k)))
      | inr k ↦ inl (any_of (λ y. Runs 16 y x) (one_instance ∷ []) one_instance (Contains-head one_instance []) (2656, refl, omega (arith, k), omega (arith, late)))
    ])),
    tt,
  );
}

pub example_rare : AreRare 40000 0 (0 ∷ []) (one_hit ∷ [])
example_rare = record {
  same = refl;
  each = λ i e h p q. at i e h p q;
  apart = AllPairs-from_Pairs (λ d e. d + 40000 ≤ e) (0 ∷ []) (tt, tt);
}
  where
    at : (i e : ℕ) (h : Disturbance) → slice_get (0 ∷ []) i ≡ Some e → slice_get (one_hit ∷ []) i ≡ Some h → (e ≤ h.start) × (h.start ≤ e + 0)
    at zero e h p q = let a : 0 ≡ e = cc in let s : one_hit ≡ h = cc in let b : 0 ≡ h.start = ap (λ h. h.start) s in (omega (arith, a, b), omega (arith, a, b))
    at (suc i) e h p q = absurd (cc)
