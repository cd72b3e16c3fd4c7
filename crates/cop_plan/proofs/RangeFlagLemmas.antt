-- The flags that places are filled by, and what the filling of all PDOs says.
use Rattle.std.proofs.Common.{◌≡◌, ℕ, zero, suc, ◌+◌, ◌*◌, ◌<◌, ◌≤◌, ◌⊎◌, inl, inr, Bool, true, false, not, map, ◌&&◌, nat_lt, List, [], ◌∷◌, length, get_or, slice_get, Some, None, refl, sym, ap, ◌∙◌, subst, arith}
use Rattle.std.specs.Option.{option_map_or}
use Rattle.std.proofs.lemmas.Bool.{cases_lt, lt-ltb, le-ltb}
use Rattle.std.proofs.lemmas.List.{get_or-map, length-map}
use Rattle.std.proofs.lemmas.Option.{slice_get_cases, unwrap_or-slice_get}
use Rattle.cop_frame.specs.declared.rates.Rate.{Rate}
use Rattle.cop_rta.specs.declared.streams.Stream.{Stream}
use Rattle.cop_rta.specs.Test.{is_flagged}
use Rattle.cop_rta.specs.Sums.{sum_where}
use Rattle.cop_rta.specs.Placing.{Flags, HasOneAbove}
use Rattle.cop_cert.specs.Evidence.{is_listed}
use Rattle.cop_cert.specs.Sets.{is_in_trial}
use Rattle.cop_cert.proofs.AboveLemmas.{trial_of_pdo, trial_of_fixed}
use Rattle.cop_plan.specs.Fillings.{number, IsFilled, is_flagged_pdo, AreTrialOf, looked_at}
use Rattle.cop_plan.proofs.FillingLemmas.{no_bit}
use Rattle.cop_plan.proofs.GreedyLemmas.{count_some, count_none, count_alike}

-- past its end a list has no flag that is set
flag_past : (flags : List Bool) (k : ℕ) → length flags ≤ k → is_flagged flags k ≡ false
flag_past flags k h = go (slice_get_cases flags k).1
  where
    go : ((b : Bool) × (k < length flags) × (slice_get flags k ≡ Some b) × (get_or flags k b ≡ b)) ⊎ ((length flags ≤ k) × (slice_get flags k ≡ None)) → is_flagged flags k ≡ false
    go (inl b) = absurd (omega (arith, b.1, h))
    go (inr past) = rw past.1 refl

turned_flag : (flags : List Bool) (k : ℕ) → k < length flags → is_flagged (map not flags) k ≡ not (is_flagged flags k)
turned_flag flags k h =
    unwrap_or-slice_get (map not flags) k false ∙ get_or-map not flags k false false h ∙ ap (λ (b : Bool). not b) (sym (unwrap_or-slice_get flags k false))

not_not : (b : Bool) → not (not b) ≡ b
not_not true = refl
not_not false = refl

module _ (bound : ℕ) (streams : List Stream) (start : List Bool) (few : length start ≤ length streams) where
  -- past the streams nothing is above in a trial
  none_past : (k : ℕ) → length streams ≤ k → is_in_trial bound streams (length start) (is_flagged start) k ≡ false
  none_past k h = trial_of_fixed streams (length start) bound (is_flagged start) k (omega (arith, h, few)) ∙ none (slice_get_cases streams k).1
    where
      none : ((s : Stream) × (k < length streams) × (slice_get streams k ≡ Some s) × (get_or streams k s ≡ s)) ⊎ ((length streams ≤ k) × (slice_get streams k ≡ None))
          → option_map_or (λ s. nat_lt s.id bound) (slice_get streams k) false ≡ false
      none (inl s) = absurd (omega (arith, s.1, h))
      none (inr e) = rw e.1 refl

  -- flags that are a trial's as far as there are streams are so everywhere
  pub trial_flags : (out : List Bool) → length out ≡ length streams → ((k : ℕ) → k < length streams → is_flagged out k ≡ is_in_trial bound streams (length start) (is_flagged start) k)
      → (k : ℕ) → is_flagged out k ≡ is_in_trial bound streams (length start) (is_flagged start) k
  trial_flags out long each k = go (cases_lt k (length streams))
    where
      go : (k < length streams) ⊎ (length streams ≤ k) → is_flagged out k ≡ is_in_trial bound streams (length start) (is_flagged start) k
      go (inl h) = each k h
      go (inr h) = flag_past out k (omega (arith, h, long)) ∙ sym (none_past k h)

module _ (bound : ℕ) (streams : List Stream) (start out : List Bool) (few : length start ≤ length streams) (long : length out ≡ length streams)
    (each : (k : ℕ) → k < length streams → is_flagged out k ≡ not (is_in_trial bound streams (length start) (is_flagged start) k)) where
  turned_trial : (k : ℕ) → is_flagged (map not out) k ≡ is_in_trial bound streams (length start) (is_flagged start) k
  turned_trial = trial_flags bound streams start few (map not out) (length-map out not ∙ long)
      (λ k h. turned_flag out k (omega (arith, h, long)) ∙ ap (λ (b : Bool). not b) (each k h) ∙ not_not (is_in_trial bound streams (length start) (is_flagged start) k))

  turned_pdo : (k : ℕ) → k < length start → is_flagged (map not out) k ≡ is_flagged start k
  turned_pdo k h = turned_trial k ∙ trial_of_pdo streams (length start) bound (is_flagged start) k h

  start_is : is_flagged_pdo (length start) (map not out) ≡ is_flagged start
  start_is = λ i k. go k (cases_lt k (length start)) i
    where
      go : (k : ℕ) → (k < length start) ⊎ (length start ≤ k) → (nat_lt k (length start) && is_flagged (map not out) k) ≡ is_flagged start k
      go k (inl h) = rw (lt-ltb k (length start) h) (turned_pdo k h)
      go k (inr h) = rw (le-ltb k (length start) h) (sym (flag_past start k h))

  trial_of_start : AreTrialOf bound streams (length start) (map not out)
  trial_of_start = record { each = λ k. turned_trial k ∙ ap (λ (members : ℕ → Bool). is_in_trial bound streams (length start) members k) (sym start_is) }

  -- some PDO to start with stays above
  pub one_above : 1 ≤ number (length start) (is_flagged start) → HasOneAbove (map not out)
  one_above some =
      let found = count_some (length start) (is_flagged start) (omega (arith, some)) in
      (found.0, omega (arith, found.1, few, long, length-map out not), turned_pdo found.0 found.1 ∙ found.2)

  pub number_above : number (length start) (is_flagged start) ≡ number (length start) (is_flagged (map not out))
  number_above = count_alike (length start) (is_flagged start) (is_flagged (map not out)) (λ k h. sym (turned_pdo k h))

  pub filled_by_flags : (rate : Rate) (first : Flags) (placed : List ℕ) (left : ℕ → Bool) → first ≡ record { streams = streams; flags = map not out; rate = rate }
      → ((b : ℕ) → AreTrialOf b first.streams (length start) first.flags → IsFilled b first.rate first.streams (length start) (is_flagged_pdo (length start) first.flags) placed left)
      → IsFilled bound rate streams (length start) (is_flagged start) placed left
  filled_by_flags rate first placed left is filled =
      let here : (b : ℕ) → AreTrialOf b streams (length start) (map not out) → IsFilled b rate streams (length start) (is_flagged_pdo (length start) (map not out)) placed left =
      subst (λ (v : Flags). (b : ℕ) → AreTrialOf b v.streams (length start) v.flags → IsFilled b v.rate v.streams (length start) (is_flagged_pdo (length start) v.flags) placed left) is filled in
      subst (λ (test : ℕ → Bool). IsFilled bound rate streams (length start) test placed left) start_is (here bound trial_of_start)

-- no PDO to start with
none_listed : (n : ℕ) → number n (is_listed []) ≡ 0
unfolding sum_where
none_listed zero = refl
none_listed (suc n) = omega (arith, none_listed n)

pub filled_by_none : (bound : ℕ) (rate : Rate) (streams : List Stream) (pdos : ℕ) (start : ℕ → Bool) → number pdos start ≡ 0 → IsFilled bound rate streams pdos start [] (is_listed [])
filled_by_none bound rate streams pdos start none = record {
  split = record {
    distinct = tt;
    inside = λ k m. absurd (no_bit false m refl);
    bounded = λ k m. absurd (no_bit false m refl);
    apart = λ k m. absurd (no_bit false m refl);
    each = λ k below. sym (count_none pdos start none k below);
    counted = omega (arith, none_listed pdos, none);
  };
  passes = tt;
  later = tt;
  stuck = λ p below m good. no_bit false m refl;
}

pub looked_at_more : (placed left : List ℕ) → 1 ≤ length left → looked_at placed left ≡ length placed + 1
looked_at_more placed [] h = absurd (omega (arith, h))
looked_at_more placed (p ∷ rest) h = refl

-- ---- the first range, by all PDOs

-- each PDO counts
pub number_all : (n : ℕ) (test : ℕ → Bool) → ((k : ℕ) → k < n → test k ≡ true) → number n test ≡ n
unfolding sum_where
number_all zero test h = refl
number_all (suc n) test h = rw (h n (omega arith), number_all n test (λ k i. h k (omega (arith, i)))) (omega arith)

pub number_of_all : (pdos : ℕ) (flags : List Bool) → length flags ≡ pdos → ((k : ℕ) → k < pdos → is_flagged flags k ≡ true) → number (length flags) (is_flagged flags) ≡ pdos
number_of_all pdos flags long each = rw long (number_all pdos (is_flagged flags) each)

pub trials_of_all : (pdos size old new : ℕ) → size ≡ pdos → 2 * new ≤ 2 * old + size * (size + 1) → 2 * new ≤ 2 * old + pdos * (pdos + 1)
trials_of_all pdos size old new e h = rw e at h

pub trials_of_some : (pdos size old new : ℕ) → size ≤ pdos → 2 * new ≤ 2 * old + size * (size + 1) → 2 * new ≤ 2 * old + pdos * (pdos + 1)
trials_of_some pdos size old new few h = let less : size * (size + 1) ≤ pdos * (pdos + 1) = grind (arith, few) in omega (arith, h, less)

-- there is room for the trials of another filling
pub trials_after : (pdos old new : ℕ) → pdos ≤ 512 → old ≤ 4294967296 + 2147483648 → 2 * new ≤ 2 * old + pdos * (pdos + 1) → new ≤ 8589934592
trials_after pdos old new few room h = let most : pdos * (pdos + 1) ≤ 512 * 513 = grind (arith, few) in omega (arith, room, h, most)

pub trials_before : (pdos old new : ℕ) → pdos ≤ 512 → old ≤ 4294967296 + 1073741824 → 2 * new ≤ 2 * old + pdos * (pdos + 1) → new ≤ 4294967296 + 2147483648
trials_before pdos old new few room h = let most : pdos * (pdos + 1) ≤ 512 * 513 = grind (arith, few) in omega (arith, room, h, most)
