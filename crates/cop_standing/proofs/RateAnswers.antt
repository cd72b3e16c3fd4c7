-- Answers at rates, one after the other.
use Rattle.std.proofs.Common.{◌≡◌, ℕ, ◌+◌, ◌<◌, ◌≤◌, ◌⊎◌, ◌↔◌, inl, inr, List, [], ◌∷◌, ◌++◌, length, get_or, Any, Contains, sym, ap, ◌∙◌, subst, arith, length-append}
use Rattle.std.proofs.lemmas.Bool.{cases_eq}
use Rattle.std.proofs.lemmas.List.{get_or_append_left}
use Rattle.std.proofs.lemmas.List.Elements.{All-push}
use Rattle.std.proofs.lemmas.List.Quantifiers.{all_pairs_push, Any-push}
use Rattle.cop_frame.specs.declared.rates.Rate.{Rate}
use Rattle.cop_frame.specs.Rate.{kbits_of, place_of}
use Rattle.cop_frame.proofs.RateSetLemmas.{place_below}
use Rattle.cop_rta.specs.declared.streams.Stream.{Stream}
use Rattle.cop_plan.proofs.RateLemmas.{rate_at, at_place, place_at, kbits_rise}
use Rattle.cop_plan.proofs.AssignLemmas.{IsEarlier}
use Rattle.cop_standing.specs.declared.answers.Answer.{Answer}
use Rattle.cop_standing.specs.Answers.{IsAnswer, AreAnswers}

any_still : (P : Answer → Type 0) (xs : List Answer) (y : Answer) → Any P xs → Any P (xs ++ y ∷ [])
any_still P xs y (k, x, low, here, p) =
    let long : k < length (xs ++ y ∷ []) = simp length-append (omega (arith, low)) in
    (k, x, long, get_or_append_left xs (y ∷ []) x k low ∙ here, p)

module _ (streams : List Stream) (pdos : ℕ) where
  -- rates that are the same
  pub also : (Are Others : Rate → Type 0) (answers : List Answer) → ((rate : Rate) → Are rate → Others rate) → ((rate : Rate) → Others rate → Are rate)
      → AreAnswers streams pdos Are answers → AreAnswers streams pdos Others answers
  also Are Others answers to from r = record {
    rise = r.rise;
    only = λ k d h. to (get_or answers k d).rate (r.only k d h);
    every = λ rate other. r.every rate (from rate other);
    each = r.each;
  }

  pub none_yet : (rates : List Rate) → AreAnswers streams pdos (IsEarlier rates 0) []
  none_yet rates = record {
    rise = λ i j d lt h. absurd (omega arith);
    only = λ k d h. absurd (omega arith);
    every = λ rate earlier. absurd (omega (arith, earlier.1));
    each = λ k d h. absurd (omega arith);
  }

  -- the next rate is not asked for
  pub passed_over : (rates : List Rate) (i : ℕ) (answers : List Answer) → i < 8 → (Contains rates (rate_at i) → ⊥)
      → AreAnswers streams pdos (IsEarlier rates i) answers → AreAnswers streams pdos (IsEarlier rates (i + 1)) answers
  passed_over rates i answers low absent r =
      also (IsEarlier rates i) (IsEarlier rates (i + 1)) answers (λ rate e. (e.0, omega (arith, e.1))) (λ rate e. (e.0, earlier rate e (cases_eq (place_of rate) i))) r
    where
      earlier : (rate : Rate) → IsEarlier rates (i + 1) rate → (place_of rate ≡ i) ⊎ (place_of rate ≡ i → ⊥) → place_of rate < i
      earlier rate e (inr apart) = omega (arith, e.1)
      earlier rate e (inl same) = absurd (absent (subst (Contains rates) (sym (at_place rate) ∙ ap rate_at same) e.0))

  -- it is answered
  pub one_more : (rates : List Rate) (i : ℕ) (answers : List Answer) (more : Answer) → i < 8 → Contains rates (rate_at i) → IsAnswer (rate_at i) streams pdos more
      → AreAnswers streams pdos (IsEarlier rates i) answers → AreAnswers streams pdos (IsEarlier rates (i + 1)) (answers ++ more ∷ [])
  one_more rates i answers more low candidate answer r = record {
    rise = all_pairs_push (λ a b. kbits_of a.rate < kbits_of b.rate) answers more r.rise
        (λ k d h. kbits_rise (get_or answers k d).rate more.rate (omega (arith, (r.only k d h).1, here)));
    only = All-push (λ a. IsEarlier rates (i + 1) a.rate) answers more (λ k d h. ((r.only k d h).0, omega (arith, (r.only k d h).1)))
        (subst (Contains rates) (sym answer.rate_is) candidate, omega (arith, here));
    every = λ rate e. every rate e (cases_eq (place_of rate) i);
    each = All-push (λ a. IsAnswer a.rate streams pdos a) answers more r.each (subst (λ rate. IsAnswer rate streams pdos more) (sym answer.rate_is) answer);
  }
    where
      here : place_of more.rate ≡ i
      here = ap place_of answer.rate_is ∙ place_at i low

      every : (rate : Rate) → IsEarlier rates (i + 1) rate → (place_of rate ≡ i) ⊎ (place_of rate ≡ i → ⊥) → Any (λ a. a.rate ≡ rate) (answers ++ more ∷ [])
      every rate e (inl same) = Any-push (λ a. a.rate ≡ rate) answers more (answer.rate_is ∙ ap rate_at (sym same) ∙ at_place rate)
      every rate e (inr apart) = any_still (λ a. a.rate ≡ rate) answers more (r.every rate (e.0, omega (arith, e.1)))

  -- all rates were looked at
  pub all_answered : (rates : List Rate) (i : ℕ) (answers : List Answer) → 8 ≤ i → AreAnswers streams pdos (IsEarlier rates i) answers → AreAnswers streams pdos (Contains rates) answers
  all_answered rates i answers h r =
      also (IsEarlier rates i) (Contains rates) answers (λ rate e. e.0) (λ rate c. (c, omega (arith, h, place_below rate))) r

  -- of the same rates
  pub of_same : (rates others : List Rate) (answers : List Answer) → ((rate : Rate) → Contains rates rate ↔ Contains others rate)
      → AreAnswers streams pdos (Contains rates) answers → AreAnswers streams pdos (Contains others) answers
  of_same rates others answers same r = also (Contains rates) (Contains others) answers (λ rate. (same rate).0) (λ rate. (same rate).1) r
