-- What passes with a deadline that is lowered, by its greatest response.
use Rattle.std.proofs.Common.{◌≡◌, ℕ, zero, suc, ◌+◌, ◌-◌, ◌<◌, ◌≤◌, ◌⊎◌, inl, inr, nat_lt, List, length, Option, Some, None, option_map, refl, sym, ap, ◌∙◌, subst, arith, ⊎_elim}
use Rattle.std.proofs.lemmas.Bool.{cases_eq}
use Rattle.std.proofs.lemmas.Option.{slice_get_cases}
use Rattle.cop_frame.specs.declared.rates.Rate.{Rate}
use Rattle.cop_rta.specs.declared.streams.Stream.{Stream}
use Rattle.cop_rta.specs.Greatest.{HasGreatest}
use Rattle.cop_rta.specs.Test.{StreamPlace, Passes, IsOnTime, IsQueuedWithin, busy_at, deadline_at, cost_at, greatest_response, ahead_of}
use Rattle.cop_rta.proofs.GreatestLemmas.{has_greatest, greatest_response_is, same_response}
use Rattle.cop_rta.proofs.LeastLemmas.{same_least}
use Rattle.cop_rta.proofs.QueueLemmas.{cost_pos}
use Rattle.cop_cert.specs.Assignments.{is_lower, place_under}
use Rattle.cop_plan.specs.Margins.{AreLoweredBy, Leaves}
use Rattle.cop_plan.proofs.MarginLemmas.{askings_lowered, lowered_length, lowered_deadline, alike, under_lowered}
use Rattle.cop_plan.proofs.SameAsking.{place_at, same_greatest}
use Rattle.cop_plan.proofs.SameSync.{ahead_same}

-- ---- the test and the greatest response

module _ (p : StreamPlace) (inside : p.index < length p.streams) where
  costs : 0 < cost_at p
  costs = ⊎_elim (λ s. rw s.2 (cost_pos p.rate s.0)) (λ past. absurd (omega (arith, past.0))) (slice_get_cases p.streams p.index).1

  pub some_response : (r : ℕ) → HasGreatest p r → 0 < r
  some_response r has =
      let first = has.each 0 (let w = has.busy.within in omega arith) in
      let answer = first.1.response in
      omega (arith, answer, first.2, costs)

  pub on_time_by_greatest : Passes p → (r : ℕ) × HasGreatest p r × IsOnTime p r
  on_time_by_greatest passes =
      let has = has_greatest p inside passes.time passes.busy passes.within in
      let time : has.time ≡ passes.time = same_least (busy_at p) 1 has.time passes.time has.busy passes.busy in
      let answer = passes.on_time has.reached.0 (subst (λ (t : ℕ). IsQueuedWithin p t has.reached.0) time has.reached.1) in
      (_, has, subst (λ (r : ℕ). IsOnTime p r) (same_response p has.reached.0 answer.0 _ answer.1 has.reached.2) answer.2)

  passes_by_greatest : (r : ℕ) → HasGreatest p r → IsOnTime p r → Passes p
  passes_by_greatest r has there = record {
    time = has.time;
    busy = has.busy;
    within = has.within;
    on_time = λ q queued. let answer = has.each q queued in (answer.0, answer.1, λ d e. omega (arith, answer.2, there d e));
  }

-- ---- deadlines that are lowered leave the responses

module _ (amount : ℕ → ℕ) (streams lowered : List Stream) (is : AreLoweredBy amount streams lowered) (rate : Rate) (pdos : ℕ) (ids : ℕ → ℕ) (k : ℕ) where
  greatest_lowered : greatest_response (place_under rate lowered pdos ids k) ≡ greatest_response (place_under rate streams pdos ids k)
  greatest_lowered =
      same_greatest lowered streams (askings_lowered amount streams lowered is) (is_lower lowered pdos ids k) k rate (ahead_of lowered rate)
      ∙ ap (λ (under : ℕ → ℕ). greatest_response (place_at streams (λ j. nat_lt (under j) (under k)) k rate (ahead_of lowered rate))) (under_lowered amount streams lowered is rate pdos ids)
      ∙ ap (λ (ahead : ℕ). greatest_response (place_at streams (is_lower streams pdos ids k) k rate ahead)) (ahead_same lowered streams (askings_lowered amount streams lowered is) (alike amount streams lowered is) rate)

  -- what passes so ends so much before its deadline
  pub leaves_by_passing : (d : ℕ) → k < length streams → deadline_at (place_under rate streams pdos ids k) ≡ Some d → Passes (place_under rate lowered pdos ids k)
      → (r : ℕ) × (greatest_response (place_under rate streams pdos ids k) ≡ Some r) × (r + amount k ≤ d)
  leaves_by_passing d inside dated passes =
      let there : k < length lowered = omega (arith, inside, lowered_length amount streams lowered is) in
      let found = on_time_by_greatest (place_under rate lowered pdos ids k) there passes in
      let late = found.2 (d - amount k) (lowered_deadline amount streams lowered is k ∙ ap (λ (o : Option ℕ). option_map (λ d. d - amount k) o) dated) in (
        found.0,
        sym greatest_lowered ∙ (greatest_response_is (place_under rate lowered pdos ids k) there found.0).1 found.1,
        omega (arith, late, some_response (place_under rate lowered pdos ids k) there found.0 found.1),
      )

  pub passes_by_leaving : (d r : ℕ) → k < length streams → deadline_at (place_under rate streams pdos ids k) ≡ Some d → greatest_response (place_under rate streams pdos ids k) ≡ Some r → r + amount k ≤ d
      → Passes (place_under rate lowered pdos ids k)
  passes_by_leaving d r inside dated greatest le =
      let there : k < length lowered = omega (arith, inside, lowered_length amount streams lowered is) in
      let less : deadline_at (place_under rate lowered pdos ids k) ≡ Some (d - amount k) = lowered_deadline amount streams lowered is k ∙ ap (λ (o : Option ℕ). option_map (λ d. d - amount k) o) dated in
      passes_by_greatest (place_under rate lowered pdos ids k) there r ((greatest_response_is (place_under rate lowered pdos ids k) there r).0 (greatest_lowered ∙ greatest))
      (λ x e. omega (arith, le, one_of (d - amount k) x (sym less ∙ e)))
    where
      one_of : (m n : ℕ) → Some m ≡ Some n → m ≡ n
      one_of m n e = cc

-- ---- one of them has no more left

module _ (rate : Rate) (streams : List Stream) (pdos : ℕ) (ids : ℕ → ℕ) (margin : ℕ) where
  -- so much is left of the deadline at k, if there is one
  abbrev pub KeepsAt : ℕ → Type 0
  KeepsAt k = (d : ℕ) → deadline_at (place_under rate streams pdos ids k) ≡ Some d → (r : ℕ) × (greatest_response (place_under rate streams pdos ids k) ≡ Some r) × (r + margin ≤ d)

  abbrev pub More : ℕ → Type 0
  More k = (d : ℕ) → deadline_at (place_under rate streams pdos ids k) ≡ Some d → (r : ℕ) × (greatest_response (place_under rate streams pdos ids k) ≡ Some r) × (r + suc margin ≤ d)

  at_one : (k : ℕ) → KeepsAt k → Leaves (place_under rate streams pdos ids k) margin ⊎ More k
  at_one k keeps = go (deadline_at (place_under rate streams pdos ids k)) refl
    where
      some : (m n : ℕ) → Some m ≡ Some n → m ≡ n
      some m n e = cc

      go : (o : Option ℕ) → deadline_at (place_under rate streams pdos ids k) ≡ o → Leaves (place_under rate streams pdos ids k) margin ⊎ More k
      go None dated = inr (λ d e. absurd (none d (sym dated ∙ e)))
        where
          none : (d : ℕ) → None ≡ Some d → ⊥
          none d e = cc
      go (Some d) dated = let found = keeps d dated in ⊎_elim
          (λ (same : found.0 + margin ≡ d). inl (record { deadline = d; dated = dated; response = found.0; greatest = found.1; left = same }))
          (λ (apart : found.0 + margin ≡ d → ⊥). inr (λ x e. (found.0, found.1, omega (arith, found.2, apart, some d x (sym dated ∙ e)))))
          (cases_eq (found.0 + margin) d)

  pub one_or_all : (n : ℕ) → ((k : ℕ) → k < n → KeepsAt k) → ((k : ℕ) × (k < n) × Leaves (place_under rate streams pdos ids k) margin) ⊎ ((k : ℕ) → k < n → More k)
  one_or_all zero keep = inr (λ k h. absurd (omega (arith, h)))
  one_or_all (suc n) keep = ⊎_elim
      (λ one. inl (one.0, omega (arith, one.1), one.2))
      (λ all. ⊎_elim
      (λ here. inl (n, omega arith, here))
      (λ more. inr (λ k h. ⊎_elim (λ (same : k ≡ n). subst (λ (k : ℕ). More k) (sym same) more) (λ apart. all k (omega (arith, h, apart))) (cases_eq k n)))
      (at_one n (keep n (omega arith))))
      (one_or_all n (λ k h. keep k (omega (arith, h))))
