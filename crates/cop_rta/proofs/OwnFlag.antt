-- Whether a stream is above itself is not asked.
use Rattle.std.proofs.Common.{◌≡◌, ℕ, ◌+◌, ◌⊎◌, inl, inr, Bool, not, ◌==◌, ◌&&◌, length, refl, sym, ap, subst, arith}
use Rattle.std.proofs.lemmas.Bool.{cases_eq, eq-eqb}
use Rattle.cop_frame.specs.Rate.{ticks_of}
use Rattle.cop_rta.specs.declared.verdicts.Verdict.{Verdict}
use Rattle.cop_rta.specs.declared.verdicts.Verdict.TheVariants.{Pass, Late, Long}
use Rattle.cop_rta.specs.Solutions.{IsLeastSolution}
use Rattle.cop_rta.specs.Sums.{sum_where, max_where}
use Rattle.cop_rta.specs.Test.{StreamPlace, is_above, is_below, of_stream, cost_of, load_of, blocking, interference, busy_at, queueing_at, IsBusyTime, IsResponse}
use Rattle.cop_rta.specs.Verdict.{IsJudged}
use Rattle.cop_rta.specs.Witnesses.{under}

module _ (p : StreamPlace) (above : ℕ → Bool) (same : (k : ℕ) → (k ≡ p.index → ⊥) → p.above k ≡ above k) where
  above_same : (k : ℕ) → is_above p k ≡ is_above (under p above) k
  above_same k = go (cases_eq k p.index)
    where
      go : (k ≡ p.index) ⊎ (k ≡ p.index → ⊥) → (not (k == p.index) && p.above k) ≡ (not (k == p.index) && above k)
      go (inl e) = rw (eq-eqb k p.index e) refl
      go (inr apart) = ap (λ b. not (k == p.index) && b) (same k apart)

  below_same : (k : ℕ) → is_below p k ≡ is_below (under p above) k
  below_same k = go (cases_eq k p.index)
    where
      go : (k ≡ p.index) ⊎ (k ≡ p.index → ⊥) → (not (k == p.index) && not (p.above k)) ≡ (not (k == p.index) && not (above k))
      go (inl e) = rw (eq-eqb k p.index e) refl
      go (inr apart) = ap (λ b. not (k == p.index) && not b) (same k apart)

  blocking_same : blocking p ≡ blocking (under p above)
  blocking_same =
      let tests : is_below p ≡ is_below (under p above) = λ i k. below_same k i in
      ap (λ (test : ℕ → Bool). max_where test (of_stream (cost_of p.rate) p.streams) (length p.streams)) tests

  interference_same : (x : ℕ) → interference p x ≡ interference (under p above) x
  interference_same x =
      let tests : is_above p ≡ is_above (under p above) = λ i k. above_same k i in
      ap (λ (test : ℕ → Bool). sum_where test (of_stream (load_of p.rate p.ahead x) p.streams) (length p.streams)) tests

  busy_same : (t : ℕ) → busy_at p t ≡ busy_at (under p above) t
  unfolding busy_at
  busy_same t = omega (arith, blocking_same, interference_same t)

  queueing_same : (q w : ℕ) → queueing_at p q w ≡ queueing_at (under p above) q w
  unfolding queueing_at
  queueing_same q w = omega (arith, blocking_same, interference_same (w + ticks_of p.rate))

  busy_there : (t : ℕ) → IsBusyTime p t → IsBusyTime (under p above) t
  busy_there t busy =
      let equations : busy_at p ≡ busy_at (under p above) = λ i t. busy_same t i in
      subst (λ (f : ℕ → ℕ). IsLeastSolution f 1 t) equations busy

  busy_here : (t : ℕ) → IsBusyTime (under p above) t → IsBusyTime p t
  busy_here t busy =
      let equations : busy_at (under p above) ≡ busy_at p = λ i t. sym (busy_same t) i in
      subst (λ (f : ℕ → ℕ). IsLeastSolution f 1 t) equations busy

  response_there : (q r : ℕ) → IsResponse p q r → IsResponse (under p above) q r
  response_there q r answers =
      let equations : queueing_at p q ≡ queueing_at (under p above) q = λ i w. queueing_same q w i in
      record {
        wait = answers.wait;
        queueing = subst (λ (f : ℕ → ℕ). IsLeastSolution f 0 answers.wait) equations answers.queueing;
        response = answers.response;
      }

  pub judged_beside : (v : Verdict) → IsJudged p v → IsJudged (under p above) v
  judged_beside (Pass response) by = record {
    time = by.time;
    busy = busy_there by.time by.busy;
    within = by.within;
    on_time = λ q queued. let x = by.on_time q queued in (x.0, response_there q x.0 x.1, x.2, x.3);
    reached = (by.reached.0, by.reached.1, response_there by.reached.0 response by.reached.2);
  }
  judged_beside (Late q response) late = record {
    time = late.time;
    busy = busy_there late.time late.busy;
    within = late.within;
    queued = late.queued;
    answers = response_there q response late.answers;
    late = late.late;
    first = λ k before. let x = late.first k before in (x.0, response_there k x.0 x.1, x.2);
  }
  judged_beside Long long = λ t busy. long t (busy_here t busy)
