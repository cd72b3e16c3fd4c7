-- The loads at the first rates.
use Rattle.std.proofs.Common.{◌≡◌, ℕ, ◌+◌, ◌<◌, ◌≤◌, ◌⊎◌, inl, inr, List, [], ◌∷◌, ◌++◌, length, get_or, All, AllPairs, Any, Contains, sym, ap, ◌∙◌, subst, arith, length-append}
use Rattle.std.proofs.lemmas.Bool.{cases_eq}
use Rattle.std.proofs.lemmas.List.{get_or_append_left}
use Rattle.std.proofs.lemmas.List.Elements.{All-push}
use Rattle.std.proofs.lemmas.List.Quantifiers.{all_pairs_push, Any-push}
use Rattle.cop_frame.specs.declared.rates.Rate.{Rate}
use Rattle.cop_frame.specs.Rate.{kbits_of, place_of}
use Rattle.cop_frame.proofs.RateSetLemmas.{place_below}
use Rattle.cop_net.specs.Network.{Net}
use Rattle.cop_plan.proofs.RateLemmas.{rate_at, at_place, place_at, kbits_rise}
use Rattle.cop_plan.proofs.AssignLemmas.{IsEarlier}
use Rattle.cop_figures.specs.declared.loads.Load.{Load}
use Rattle.cop_figures.specs.Loads.{IsLoadOf, AreLoads}

-- the loads at those of the first i rates that all devices support
pub record AreFirst (net : Net) (i : ℕ) (loads : List Load) : Type 0 where
  pub rise : AllPairs (λ l m. kbits_of l.rate < kbits_of m.rate) loads
  pub first : All (λ l. place_of l.rate < i) loads
  pub each : All (IsLoadOf net) loads
  pub every : (rate : Rate) → IsEarlier net.equipment.rates i rate → Any (λ l. l.rate ≡ rate) loads

-- what some element has, one of a longer list has
any_still : (P : Load → Type 0) (xs : List Load) (y : Load) → Any P xs → Any P (xs ++ y ∷ [])
any_still P xs y (k, x, low, here, p) =
    let long : k < length (xs ++ y ∷ []) = simp length-append (omega (arith, low)) in
    (k, x, long, get_or_append_left xs (y ∷ []) x k low ∙ here, p)

module _ (net : Net) where
  pub none_yet : AreFirst net 0 []
  none_yet = record {
    rise = λ i j d lt h. absurd (omega arith);
    first = λ k d h. absurd (omega arith);
    each = λ k d h. absurd (omega arith);
    every = λ rate earlier. absurd (omega (arith, earlier.1));
  }

  -- some device does not support the next rate
  pub passed_over : (i : ℕ) (loads : List Load) → i < 8 → (Contains net.equipment.rates (rate_at i) → ⊥) → AreFirst net i loads → AreFirst net (i + 1) loads
  passed_over i loads low absent f = record {
    rise = f.rise;
    first = λ k d h. omega (arith, f.first k d h);
    each = f.each;
    every = λ rate e. f.every rate (e.0, earlier rate e (cases_eq (place_of rate) i));
  }
    where
      earlier : (rate : Rate) → IsEarlier net.equipment.rates (i + 1) rate → (place_of rate ≡ i) ⊎ (place_of rate ≡ i → ⊥) → place_of rate < i
      earlier rate e (inr apart) = omega (arith, e.1)
      earlier rate e (inl same) = absurd (absent (subst (Contains net.equipment.rates) (sym (at_place rate) ∙ ap rate_at same) e.0))

  -- all devices support it
  pub one_more : (i : ℕ) (loads : List Load) (more : Load) → i < 8 → more.rate ≡ rate_at i → IsLoadOf net more → AreFirst net i loads → AreFirst net (i + 1) (loads ++ more ∷ [])
  one_more i loads more low rate_is is f = record {
    rise = all_pairs_push (λ l m. kbits_of l.rate < kbits_of m.rate) loads more f.rise
        (λ k d h. kbits_rise (get_or loads k d).rate more.rate (omega (arith, f.first k d h, here)));
    first = All-push (λ l. place_of l.rate < i + 1) loads more (λ k d h. omega (arith, f.first k d h)) (omega (arith, here));
    each = All-push (IsLoadOf net) loads more f.each is;
    every = λ rate e. every rate e (cases_eq (place_of rate) i);
  }
    where
      here : place_of more.rate ≡ i
      here = ap place_of rate_is ∙ place_at i low

      every : (rate : Rate) → IsEarlier net.equipment.rates (i + 1) rate → (place_of rate ≡ i) ⊎ (place_of rate ≡ i → ⊥) → Any (λ l. l.rate ≡ rate) (loads ++ more ∷ [])
      every rate e (inl same) = Any-push (λ l. l.rate ≡ rate) loads more (rate_is ∙ ap rate_at (sym same) ∙ at_place rate)
      every rate e (inr apart) = any_still (λ l. l.rate ≡ rate) loads more (f.every rate (e.0, omega (arith, e.1)))

  -- all rates were looked at
  pub whole : (i : ℕ) (loads : List Load) → 8 ≤ i → AreFirst net i loads → AreLoads net loads
  whole i loads h f = record {
    rise = f.rise;
    each = f.each;
    every = λ rate c. f.every rate (c, omega (arith, h, place_below rate));
  }
