-- Refusals of rates, one after the other.
use Rattle.std.proofs.Common.{◌≡◌, ℕ, ◌+◌, ◌*◌, ◌<◌, ◌≤◌, ◌⊎◌, inl, inr, List, [], ◌∷◌, ◌++◌, length, get_or, Option, None, All, Any, Contains, sym, ap, ◌∙◌, subst, arith, length-append}
use Rattle.std.proofs.lemmas.Bool.{cases_eq}
use Rattle.std.proofs.lemmas.List.{get_or_append_left}
use Rattle.std.proofs.lemmas.List.Elements.{All-push}
use Rattle.std.proofs.lemmas.List.Quantifiers.{all_pairs_push, Any-push}
use Rattle.cop_frame.specs.declared.rates.Rate.{Rate}
use Rattle.cop_frame.specs.Rate.{kbits_of, place_of}
use Rattle.cop_frame.proofs.RateSetLemmas.{place_below}
use Rattle.cop_rta.specs.declared.streams.Stream.{Stream}
use Rattle.cop_cert.specs.declared.refusals.Refusal.{Refusal}
use Rattle.cop_cert.specs.Assignments.{IsPassing, NoAssignmentPasses}
use Rattle.cop_cert.proofs.CauseLemmas.{refusal_rules_out}
use Rattle.cop_plan.specs.declared.choices.Kept.{Kept}
use Rattle.cop_plan.specs.Margins.{IsChosenOrder}
use Rattle.cop_plan.specs.Orders.{IsPlanOrder, IsByPriority}
use Rattle.cop_plan.specs.Values.{PlanValue, id_of, HaveIds}
use Rattle.cop_plan.specs.Plans.{IsGreatestRefusal, AreRefusals, members_of, members_in, is_filled, filled_in, IsSlower, IsPlan}
use Rattle.cop_plan.proofs.RateLemmas.{rate_at, at_place, place_at, kbits_rise, place_rise}

-- a candidate of the first i rates
abbrev pub IsEarlier : List Rate → ℕ → Rate → Type 0
IsEarlier rates i rate = Contains rates rate × (place_of rate < i)

-- what some element has, one of a longer list has
any_still : (P : Refusal → Type 0) (xs : List Refusal) (y : Refusal) → Any P xs → Any P (xs ++ y ∷ [])
any_still P xs y (k, x, low, here, p) =
    let long : k < length (xs ++ y ∷ []) = simp length-append (omega (arith, low)) in
    (k, x, long, get_or_append_left xs (y ∷ []) x k low ∙ here, p)

-- an element has both what some have and what all have
any_of : (P Q : Refusal → Type 0) (xs : List Refusal) → Any P xs → All Q xs → (x : Refusal) × P x × Q x
any_of P Q xs (k, x, low, here, p) all = (x, p, subst Q here (all k x low))

-- ---- a list of them

module _ (streams : List Stream) (pdos : ℕ) where
  -- rates that are the same
  pub also : (Are Others : Rate → Type 0) (refusals : List Refusal) → ((rate : Rate) → Are rate → Others rate) → ((rate : Rate) → Others rate → Are rate)
      → AreRefusals streams pdos Are refusals → AreRefusals streams pdos Others refusals
  also Are Others refusals to from r = record {
    rise = r.rise;
    only = λ k d h. to (get_or refusals k d).rate (r.only k d h);
    every = λ rate other. r.every rate (from rate other);
    each = r.each;
  }

  pub none_yet : (rates : List Rate) → AreRefusals streams pdos (IsEarlier rates 0) []
  none_yet rates = record {
    rise = λ i j d lt h. absurd (omega arith);
    only = λ k d h. absurd (omega arith);
    every = λ rate earlier. absurd (omega (arith, earlier.1));
    each = λ k d h. absurd (omega arith);
  }

  -- the next rate is no candidate
  pub passed_over : (rates : List Rate) (i : ℕ) (refusals : List Refusal) → i < 8 → (Contains rates (rate_at i) → ⊥)
      → AreRefusals streams pdos (IsEarlier rates i) refusals → AreRefusals streams pdos (IsEarlier rates (i + 1)) refusals
  passed_over rates i refusals low absent r =
      also (IsEarlier rates i) (IsEarlier rates (i + 1)) refusals (λ rate e. (e.0, omega (arith, e.1))) (λ rate e. (e.0, earlier rate e (cases_eq (place_of rate) i))) r
    where
      earlier : (rate : Rate) → IsEarlier rates (i + 1) rate → (place_of rate ≡ i) ⊎ (place_of rate ≡ i → ⊥) → place_of rate < i
      earlier rate e (inr apart) = omega (arith, e.1)
      earlier rate e (inl same) = absurd (absent (subst (Contains rates) (sym (at_place rate) ∙ ap rate_at same) e.0))

  -- it is one, and is refused
  pub one_more : (rates : List Rate) (i : ℕ) (refusals : List Refusal) (more : Refusal) → i < 8 → Contains rates (rate_at i) → more.rate ≡ rate_at i → IsGreatestRefusal streams pdos more
      → AreRefusals streams pdos (IsEarlier rates i) refusals → AreRefusals streams pdos (IsEarlier rates (i + 1)) (refusals ++ more ∷ [])
  one_more rates i refusals more low candidate rate_is greatest r = record {
    rise = all_pairs_push (λ r s. kbits_of r.rate < kbits_of s.rate) refusals more r.rise
        (λ k d h. kbits_rise (get_or refusals k d).rate more.rate (omega (arith, (r.only k d h).1, here)));
    only = All-push (λ r. IsEarlier rates (i + 1) r.rate) refusals more (λ k d h. ((r.only k d h).0, omega (arith, (r.only k d h).1)))
        (subst (Contains rates) (sym rate_is) candidate, omega (arith, here));
    every = λ rate e. every rate e (cases_eq (place_of rate) i);
    each = All-push (IsGreatestRefusal streams pdos) refusals more r.each greatest;
  }
    where
      here : place_of more.rate ≡ i
      here = ap place_of rate_is ∙ place_at i low

      every : (rate : Rate) → IsEarlier rates (i + 1) rate → (place_of rate ≡ i) ⊎ (place_of rate ≡ i → ⊥) → Any (λ r. r.rate ≡ rate) (refusals ++ more ∷ [])
      every rate e (inl same) = Any-push (λ r. r.rate ≡ rate) refusals more (rate_is ∙ ap rate_at (sym same) ∙ at_place rate)
      every rate e (inr apart) = any_still (λ r. r.rate ≡ rate) refusals more (r.every rate (e.0, omega (arith, e.1)))

  -- all rates were looked at
  pub all_refused : (rates : List Rate) (i : ℕ) (refusals : List Refusal) → 8 ≤ i → AreRefusals streams pdos (IsEarlier rates i) refusals → AreRefusals streams pdos (Contains rates) refusals
  all_refused rates i refusals h r =
      also (IsEarlier rates i) (Contains rates) refusals (λ rate e. e.0) (λ rate c. (c, omega (arith, h, place_below rate))) r

  -- those below a rate
  pub slower_refused : (rates : List Rate) (i : ℕ) (refusals : List Refusal) → i < 8 → AreRefusals streams pdos (IsEarlier rates i) refusals → AreRefusals streams pdos (IsSlower rates (rate_at i)) refusals
  slower_refused rates i refusals h r =
      also (IsEarlier rates i) (IsSlower rates (rate_at i)) refusals
      (λ rate e. (e.0, kbits_rise rate (rate_at i) (omega (arith, e.1, place_at i h))))
      (λ rate s. (s.0, omega (arith, place_rise rate (rate_at i) s.1, place_at i h))) r

  -- at a refused rate no assignment passes
  pub refused_is_ruled_out : (Are : Rate → Type 0) (refusals : List Refusal) → pdos ≤ length streams → AreRefusals streams pdos Are refusals → (rate : Rate) → Are rate → NoAssignmentPasses rate streams pdos
  refused_is_ruled_out Are refusals few r rate are =
      let found = any_of (λ r. r.rate ≡ rate) (IsGreatestRefusal streams pdos) refusals (r.every rate are) r.each in
      subst (λ (rate : Rate). NoAssignmentPasses rate streams pdos) found.1
      (refusal_rules_out streams pdos found.0 few found.2.holds)

-- one rate more was tried
pub trials_more : (before after old tried each : ℕ) → 2 * after ≤ 2 * before + each → 2 * before ≤ 2 * old + tried * each → 2 * after ≤ 2 * old + (tried + 1) * each
trials_more before after old tried each h sum = let one : (tried + 1) * each ≡ tried * each + each = grind arith in omega (arith, h, sum, one)

pub busy_more : (before after old tried each : ℕ) → after ≤ before + each → before ≤ old + tried * each → after ≤ old + (tried + 1) * each
busy_more before after old tried each h sum = let one : (tried + 1) * each ≡ tried * each + each = grind arith in omega (arith, h, sum, one)

-- what is planned at the first rate that is not refused
pub plan_is : (rates : List Rate) (streams : List Stream) (pdos i : ℕ) (plan : PlanValue) (refusals : List Refusal) → pdos ≤ length streams → i < 8
    → Contains rates (rate_at i) → plan.rate ≡ rate_at i → plan.margin ≡ None → plan.refusals ≡ refusals → length plan.ids ≡ pdos → IsPassing (rate_at i) streams pdos (id_of plan.ids) → IsPlanOrder (rate_at i) streams pdos (id_of plan.ids)
    → IsByPriority pdos (id_of plan.ids) plan.order → HaveIds streams pdos (id_of plan.ids) plan.streams → AreRefusals streams pdos (IsEarlier rates i) refusals → IsPlan rates streams pdos plan
plan_is rates streams pdos i plan refusals few low candidate rate_is plain refusals_are count passing ordered by_priority renamed refused =
    let slower : AreRefusals streams pdos (IsSlower rates (rate_at i)) plan.refusals =
    subst (λ (list : List Refusal). AreRefusals streams pdos (IsSlower rates (rate_at i)) list) (sym refusals_are) (slower_refused streams pdos rates i refusals low refused) in
    let all : AreRefusals streams pdos (IsSlower rates plan.rate) plan.refusals =
    subst (λ (rate : Rate). AreRefusals streams pdos (IsSlower rates rate) plan.refusals) (sym rate_is) slower in
    record {
      candidate = subst (Contains rates) (sym rate_is) candidate;
      count = count;
      passing = subst (λ (rate : Rate). IsPassing rate streams pdos (id_of plan.ids)) (sym rate_is) passing;
      order = subst (λ (margin : Option Kept). IsChosenOrder margin plan.rate streams pdos (id_of plan.ids)) (sym plain) (subst (λ (rate : Rate). IsPlanOrder rate streams pdos (id_of plan.ids)) (sym rate_is) ordered);
      by_priority = by_priority;
      slowest = refused_is_ruled_out streams pdos (IsSlower rates plan.rate) plan.refusals few all;
      refused = all;
      renamed = renamed;
    }

-- one refusal more
pub members_push : (rs : List Refusal) (r : Refusal) → members_in (rs ++ r ∷ []) ≡ members_in rs + members_of r.cause
members_push [] r = omega arith
members_push (s ∷ rs) r = omega (arith, members_push rs r)

pub filled_push : (rs : List Refusal) (r : Refusal) → filled_in (rs ++ r ∷ []) ≡ filled_in rs + is_filled r.cause
filled_push [] r = omega arith
filled_push (s ∷ rs) r = omega (arith, filled_push rs r)
