-- The greatest response as a number and as a fact.
use Rattle.std.proofs.Common.{◌≡◌, ◌∙◌, ◌↔◌, ℕ, zero, suc, ◌+◌, ◌-◌, ◌*◌, ◌<◌, ◌≤◌, max, Bool, true, false, true≢false, ◌==◌, if◌then◌else◌, length, slice_get, Option, Some, None, unwrap_or, option_map, refl, sym, ap, subst, arith, le_refl, le_antisymm, ⊎_elim}
use Rattle.std.specs.Int.{div_ceil}
use Rattle.std.proofs.lemmas.Bool.{cases_eq, cases_lt, eqb-true, eq-eqb}
use Rattle.std.proofs.lemmas.Option.{slice_get_cases}
use Rattle.cop_rta.specs.declared.streams.Stream.{Stream}
use Rattle.cop_rta.specs.Solutions.{IsLeastSolution}
use Rattle.cop_rta.specs.Sums.{max_where}
use Rattle.cop_rta.specs.CeilLemmas.{div_ceil_above, below_div_ceil}
use Rattle.cop_rta.specs.SumsLemmas.{max_where-more_yes, max_where-none}
use Rattle.cop_rta.specs.Test.{StreamPlace, busy_at, queueing_at, jitter_of, jitter_at, cost_at, period_at, horizon, fixed_point, response_at, greatest_within, greatest_response, IsBusyTime, IsQueuedWithin, IsResponse}
use Rattle.cop_rta.specs.Verdict.{IsLong}
use Rattle.cop_rta.specs.Greatest.{HasGreatest}
use Rattle.cop_rta.proofs.LeastLemmas.{same_least}
use Rattle.cop_rta.proofs.QueueLemmas.{wait_exists_at, cost_pos}
use Rattle.cop_rta.proofs.BoundLemmas.{of_stream_most}

-- what is found is the least solution
pub fixed_point-some : (f : ℕ → ℕ) (from n x : ℕ) → fixed_point f from n ≡ Some x → IsLeastSolution f from x × (x < from + n)
unfolding fixed_point
fixed_point-some f from zero x e = absurd (cc)
fixed_point-some f from (suc n) x e = go (f from == from) refl e (fixed_point-some f (suc from) n x)
  where
    go : (b : Bool) → (f from == from) ≡ b → (if b then Some from else fixed_point f (suc from) n) ≡ Some x →
        (fixed_point f (suc from) n ≡ Some x → IsLeastSolution f (suc from) x × (x < suc from + n)) → IsLeastSolution f from x × (x < from + suc n)
    go true t d ih = let same : from ≡ x = cc in let here : f from ≡ from = eqb-true (f from) from t in
        subst (λ x. IsLeastSolution f from x × (x < from + suc n)) same (record { within = le_refl from; solves = sym here; least = λ y l s. l }, omega arith)
    go false t d ih = let r = ih d in (
      record {
        within = (let l = r.0.within in omega arith);
        solves = r.0.solves;
        least = λ y l s. ⊎_elim
            (λ (same : y ≡ from). absurd (true≢false (sym (eq-eqb (f from) from (subst (λ z. f z ≡ z) same (sym s))) ∙ t)))
            (λ (apart : y ≡ from → ⊥). r.0.least y (omega (arith, l, apart)) s)
            (cases_eq y from);
      },
      omega (arith, r.1),
    )

-- and where one is, it is found
pub fixed_point-finds : (f : ℕ → ℕ) (from n x : ℕ) → IsLeastSolution f from x → x < from + n → fixed_point f from n ≡ Some x
unfolding fixed_point
fixed_point-finds f from zero x s l = absurd (let w = s.within in omega arith)
fixed_point-finds f from (suc n) x s l = go (f from == from) refl (fixed_point-finds f (suc from) n x)
  where
    go : (b : Bool) → (f from == from) ≡ b → (IsLeastSolution f (suc from) x → x < suc from + n → fixed_point f (suc from) n ≡ Some x) →
        (if b then Some from else fixed_point f (suc from) n) ≡ Some x
    go true t ih = ap Some (le_antisymm s.within (s.least from (le_refl from) (sym (eqb-true (f from) from t))))
    go false t ih = ih
        (record {
          within = (let w = s.within in ⊎_elim
              (λ (same : x ≡ from). absurd (true≢false (sym (eq-eqb (f from) from (subst (λ z. f z ≡ z) same (sym s.solves))) ∙ t)))
              (λ (apart : x ≡ from → ⊥). omega (arith, w, apart))
              (cases_eq x from));
          solves = s.solves;
          least = λ y l s'. s.least y (omega (arith, l)) s';
        })
        (omega arith)

-- the greatest of some numbers is one of them, and no less than each
pub max_where-reached : (f : ℕ → ℕ) (n : ℕ) → 0 < n → (k : ℕ) × (k < n) × (max_where (λ q. true) f n ≡ f k)
unfolding max_where
max_where-reached f zero h = absurd (omega arith)
max_where-reached f (suc zero) h = (0, omega arith, omega arith)
max_where-reached f (suc (suc n)) h = let r = max_where-reached f (suc n) (omega arith) in
    ⊎_elim
    (λ (lt : f (suc n) < max_where (λ q. true) f (suc n)). (r.0, omega (arith, r.1), omega (arith, lt, r.2)))
    (λ (le : max_where (λ q. true) f (suc n) ≤ f (suc n)). (suc n, omega arith, omega (arith, le)))
    (cases_lt (f (suc n)) (max_where (λ q. true) f (suc n)))

pub max_where-over : (f : ℕ → ℕ) (n k : ℕ) → k < n → f k ≤ max_where (λ q. true) f n
unfolding max_where
max_where-over f zero k l = absurd (omega arith)
max_where-over f (suc n) k l = ⊎_elim
    (λ (same : k ≡ n). let e : f k ≡ f n = ap f same in omega (arith, e))
    (λ (apart : k ≡ n → ⊥). let r = max_where-over f n k (omega (arith, l, apart)) in omega (arith, r))
    (cases_eq k n)

pub same_response : (p : StreamPlace) (q r u : ℕ) → IsResponse p q r → IsResponse p q u → r ≡ u
same_response p q r u a b =
    let w : a.wait ≡ b.wait = same_least (queueing_at p q) 0 a.wait b.wait a.queueing b.queueing in
    a.response ∙ ap (λ n. jitter_at p + n + cost_at p - q * period_at p) w ∙ sym b.response

module _ (p : StreamPlace) (inside : p.index < length p.streams) where
  own : (s : Stream) × (slice_get p.streams p.index ≡ Some s)
  own = ⊎_elim (λ s. (s.0, s.2)) (λ past. absurd (omega (arith, past.0))) (slice_get_cases p.streams p.index).1

  period_pos : 0 < period_at p
  period_pos = rw own.1 (omega (arith, own.0.period_least))

  costs : 0 < cost_at p
  costs = rw own.1 (cost_pos p.rate own.0)

  -- an instance of the busy time has the response of the number
  pub answers : (t q : ℕ) → IsBusyTime p t → IsQueuedWithin p t q → IsResponse p q (response_at p t q)
  answers t q busy queued =
      let w = wait_exists_at p t q inside busy queued in
      let found = fixed_point-finds (queueing_at p q) 0 t w.0 w.1 (omega (arith, w.2, costs)) in
      record { wait = w.0; queueing = w.1; response = ap (λ o. jitter_at p + unwrap_or o 0 + cost_at p - q * period_at p) found }

  abbrev number : ℕ → ℕ
  number t = div_ceil (t + jitter_at p) (period_at p)

  in_number : (t q : ℕ) → IsQueuedWithin p t q → q < number t
  in_number t q queued = div_ceil_above q (t + jitter_at p) (period_at p) period_pos queued

  from_number : (t q : ℕ) → q < number t → IsQueuedWithin p t q
  from_number t q lt = below_div_ceil q (t + jitter_at p) (period_at p) period_pos lt

  -- a busy time within the horizon has a greatest response
  pub has_greatest : (t : ℕ) → IsBusyTime p t → t ≤ horizon → HasGreatest p (greatest_within p t)
  has_greatest t busy within =
      let some = max_where-reached (response_at p t) (number t) (in_number t 0 (let w = busy.within in omega arith)) in
      record {
        time = t;
        busy = busy;
        within = within;
        each = λ q queued. (response_at p t q, answers t q busy queued, max_where-over (response_at p t) (number t) q (in_number t q queued));
        reached = (some.0, from_number t some.0 some.1, subst (λ r. IsResponse p some.0 r) (sym some.2) (answers t some.0 busy (from_number t some.0 some.1)));
      }

  -- which is the number that is computed
  pub greatest_found : (t : ℕ) → IsBusyTime p t → t ≤ horizon → greatest_response p ≡ Some (greatest_within p t)
  greatest_found t busy within = ap (option_map (greatest_within p)) (fixed_point-finds (busy_at p) 1 horizon t busy (omega (arith, within)))

  -- there is one at most
  pub one_greatest : (r u : ℕ) → HasGreatest p r → HasGreatest p u → r ≡ u
  one_greatest r u a b =
      let t : a.time ≡ b.time = same_least (busy_at p) 1 a.time b.time a.busy b.busy in
      le_antisymm
      (below a.reached.0 r u b a.reached.2 (subst (λ n. IsQueuedWithin p n a.reached.0) t a.reached.1))
      (below b.reached.0 u r a b.reached.2 (subst (λ n. IsQueuedWithin p n b.reached.0) (sym t) b.reached.1))
    where
      below : (q r u : ℕ) (b : HasGreatest p u) → IsResponse p q r → IsQueuedWithin p b.time q → r ≤ u
      below q r u b answer queued = let v = b.each q queued in let e = same_response p q r v.0 answer v.1 in omega (arith, e, v.2)

  -- no response is longer than the jitter and the busy time
  pub greatest_most : p.ahead ≤ 0 → (r : ℕ) → HasGreatest p r → r ≤ 280000000
  greatest_most none r has =
      let answer = has.reached.2 in
      let w = wait_exists_at p has.time has.reached.0 inside has.busy has.reached.1 in
      let same : answer.wait ≡ w.0 = same_least (queueing_at p has.reached.0) 0 answer.wait w.0 answer.queueing w.1 in
      let late : jitter_at p ≤ 240000000 = of_stream_most (jitter_of p.ahead) p.streams p.index 240000000 (λ s. short s (s.every == 0)) in
      omega (arith, answer.response, same, w.2, late, has.within)
    where
      short : (s : Stream) (b : Bool) → (if b then s.jitter else p.ahead + s.jitter) ≤ 240000000
      short s true = s.jitter_in_range
      short s false = omega (arith, none, s.jitter_in_range)

  pub greatest_response_is : (r : ℕ) → (greatest_response p ≡ Some r ↔ HasGreatest p r)
  greatest_response_is r = (λ e. to (fixed_point (busy_at p) 1 horizon) refl e, from)
    where
      to : (o : Option ℕ) → fixed_point (busy_at p) 1 horizon ≡ o → option_map (greatest_within p) o ≡ Some r → HasGreatest p r
      to None found e = absurd (cc)
      to (Some t) found e =
          let f = fixed_point-some (busy_at p) 1 horizon t found in
          let same : greatest_within p t ≡ r = cc in
          subst (HasGreatest p) same (has_greatest t f.0 (omega (arith, f.1)))

      from : HasGreatest p r → greatest_response p ≡ Some r
      from h =
          let found = fixed_point-finds (busy_at p) 1 horizon h.time h.busy (let w = h.within in omega arith) in
          ap (option_map (greatest_within p)) found ∙ ap Some (one_greatest (greatest_within p h.time) r (has_greatest h.time h.busy h.within) h)

  pub none_is_long : greatest_response p ≡ None ↔ IsLong p
  none_is_long = (λ e t busy. to (fixed_point (busy_at p) 1 horizon) refl e t busy, λ long. from (fixed_point (busy_at p) 1 horizon) refl long)
    where
      to : (o : Option ℕ) → fixed_point (busy_at p) 1 horizon ≡ o → option_map (greatest_within p) o ≡ None → (t : ℕ) → IsBusyTime p t → horizon < t
      to (Some u) found e t busy = absurd (cc)
      to None found e t busy = ⊎_elim
          (λ (late : horizon < t). late)
          (λ (early : t ≤ horizon). let there = fixed_point-finds (busy_at p) 1 horizon t busy (omega arith) in let bad : None ≡ Some t = sym found ∙ there in absurd (cc))
          (cases_lt horizon t)

      from : (o : Option ℕ) → fixed_point (busy_at p) 1 horizon ≡ o → IsLong p → option_map (greatest_within p) o ≡ None
      from None found long = refl
      from (Some t) found long = let f = fixed_point-some (busy_at p) 1 horizon t found in absurd (let l = long t f.0 in omega (arith, l, f.1))

-- ---- the same one by one

-- the greatest response of so many instances
abbrev pub greatest_of : StreamPlace → ℕ → ℕ → ℕ
greatest_of p t n = max_where (λ q. true) (response_at p t) n

pub none_greatest : (p : StreamPlace) (t : ℕ) → 0 ≡ greatest_of p t 0
none_greatest p t = sym (max_where-none (λ q. true) (response_at p t))

pub next_greatest : (p : StreamPlace) (t q greatest r : ℕ) → p.index < length p.streams → IsBusyTime p t → IsQueuedWithin p t q → greatest ≡ greatest_of p t q → IsResponse p q r → max greatest r ≡ greatest_of p t (q + 1)
next_greatest p t q greatest r inside busy queued before answer =
    let same = same_response p q r (response_at p t q) answer (answers p inside t q busy queued) in
    let next = max_where-more_yes (λ q. true) (response_at p t) q refl in
    rw (before, same) (sym next)
