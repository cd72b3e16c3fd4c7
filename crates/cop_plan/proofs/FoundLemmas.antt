-- What is found at one rate, by the fillings and by the SDO frames with deadlines.
use Rattle.std.proofs.Common.{◌≡◌, ℕ, zero, suc, ◌+◌, ◌<◌, ◌≤◌, ◌⊎◌, inl, inr, Bool, true, false, ◌||◌, ◌==◌, nat_lt, nat_le, if◌then◌else◌, List, [], ◌∷◌, length, get_or, All, AllPairs, Result, Ok, Err, IfOk, drop, refl, sym, ap, ◌∙◌, subst, arith}
use Rattle.std.proofs.lemmas.Result.{IfOk-weaker}
use Rattle.std.proofs.lemmas.List.{drop_all}
use Rattle.std.proofs.lemmas.Bool.{cases_lt, eq-eqb, eqb-true, lt-ltb, le-leb, lt-leb, le-ltb, cond-true, cond-false, or_cases, or_left, or_right}
use Rattle.cop_frame.specs.declared.rates.Rate.{Rate}
use Rattle.cop_rta.specs.declared.streams.Stream.{Stream}
use Rattle.cop_rta.specs.Sums.{sum_where}
use Rattle.cop_rta.specs.Ranges.{first_range, second_range}
use Rattle.cop_rta.specs.Test.{Passes, place_among, is_flagged}
use Rattle.cop_cert.specs.declared.refusals.Cause.{Cause}
use Rattle.cop_cert.specs.declared.refusals.Cause.TheVariants.{Places, Sync, Sdo}
use Rattle.cop_cert.specs.declared.refusals.Evidence.{Evidence}
use Rattle.cop_cert.specs.declared.refusals.Member.{Member}
use Rattle.cop_cert.specs.declared.refusals.Refusal.{Refusal}
use Rattle.cop_cert.specs.Assignments.{id_at, AreOutside}
use Rattle.cop_cert.specs.Causes.{kept, PassesBelow, IsRefusal}
use Rattle.cop_cert.specs.Chains.{FailTogether, IsMade}
use Rattle.cop_cert.specs.Evidence.{is_listed, pdos_of}
use Rattle.cop_cert.specs.Sets.{is_in_trial, IsRefusalSet, IsGreatestRefusalSet, IsGreatestStuckSet}
use Rattle.cop_cert.proofs.AboveLemmas.{trial_of_pdo, trial_of_fixed}
use Rattle.std.specs.declared.alloc.AllocError.{AllocError}
use Rattle.cop_plan.specs.declared.filling.Filled.{Filled}
use Rattle.cop_plan.specs.Fillings.{number, AreSplit, IsFilled, ArePlaced, ids_in_ranges}
use Rattle.cop_plan.specs.declared.assigning.Found.{Found}
use Rattle.cop_plan.specs.declared.assigning.Found.TheVariants.{Placed, Refused}
use Rattle.cop_plan.specs.Found.{FailsBelow, IsLowestFailing, ArePlanned, members_found, least_found, filled_found}
use Rattle.cop_plan.specs.Orders.{FramesPass, IsPlanOrder}
use Rattle.cop_plan.specs.Plans.{IsGreatestCause, IsGreatestRefusal, is_filled}
use Rattle.cop_plan.proofs.FillingLemmas.{no_bit, listed_at}
use Rattle.cop_plan.proofs.GreedyLemmas.{count_alike}
use Rattle.cop_plan.proofs.RangeFlagLemmas.{number_all}
use Rattle.cop_plan.proofs.RangeOrderLemmas.{first_alone_order, fillings_order}
use Rattle.cop_plan.proofs.RangePassLemmas.{none_left_above}
use Rattle.cop_plan.proofs.StuckLemmas.{left_is_greatest}

or_false : (b : Bool) → (b || false) ≡ b
or_false true = refl
or_false false = refl

-- ---- fillings

-- PDOs to start with that are the same
pub filled_by : (bound : ℕ) (rate : Rate) (streams : List Stream) (pdos : ℕ) (start other : ℕ → Bool) (placed : List ℕ) (left : ℕ → Bool) → ((k : ℕ) → k < pdos → start k ≡ other k)
    → IsFilled bound rate streams pdos start placed left → IsFilled bound rate streams pdos other placed left
filled_by bound rate streams pdos start other placed left same filled = record {
  split = record {
    distinct = filled.split.distinct;
    inside = filled.split.inside;
    bounded = filled.split.bounded;
    apart = filled.split.apart;
    each = λ k h. filled.split.each k h ∙ same k h;
    counted = filled.split.counted ∙ count_alike pdos start other same;
  };
  passes = filled.passes;
  later = filled.later;
  stuck = filled.stuck;
}

pub filled_by_all : (bound : ℕ) (rate : Rate) (streams : List Stream) (pdos : ℕ) (start : ℕ → Bool) (placed : List ℕ) (left : ℕ → Bool) → ((k : ℕ) → k < pdos → start k ≡ true)
    → IsFilled bound rate streams pdos start placed left → IsFilled bound rate streams pdos (λ k. nat_lt k pdos) placed left
filled_by_all bound rate streams pdos start placed left all = filled_by bound rate streams pdos start (λ k. nat_lt k pdos) placed left (λ k h. all k h ∙ sym (lt-ltb k pdos h))

-- flags of the kept PDOs, when all are gone through
pub kept_flags : (pdos k : ℕ) (out : List Bool) (listed : List ℕ) (i : ℕ) → k < pdos → length listed ≤ i
    → (is_flagged out k || is_listed (drop i listed) k) ≡ (nat_lt second_range.count pdos || is_listed listed k) → is_flagged out k ≡ kept pdos (is_listed listed) k
kept_flags pdos k out listed i h past flagged = sym (or_false (is_flagged out k)) ∙ ap (λ (rest : List ℕ). is_flagged out k || is_listed rest k) (sym (drop_all i listed past)) ∙ flagged ∙ go (cases_lt second_range.count pdos)
  where
    go : (second_range.count < pdos) ⊎ (pdos ≤ second_range.count) → (nat_lt second_range.count pdos || is_listed listed k) ≡ kept pdos (is_listed listed) k
    go (inl many) = rw (lt-ltb second_range.count pdos many, lt-leb pdos second_range.count many, lt-ltb k pdos h) refl
    go (inr few) = rw (le-ltb second_range.count pdos few, le-leb pdos second_range.count few) refl

-- whether a list is empty
pub some_left : (b : Bool) (n : ℕ) (left : List ℕ) → n ≡ length left → b ≡ (n == 0) → b ≡ false → 0 < length left
some_left b n [] long is not_so = absurd (no_bit b (is ∙ eq-eqb n 0 long) not_so)
some_left b n (p ∷ left) long is not_so = omega arith

pub none_left_of : (b : Bool) (n : ℕ) (left : List ℕ) → n ≡ length left → b ≡ (n == 0) → b ≡ true → left ≡ []
none_left_of b n [] long is so = refl
none_left_of b n (p ∷ left) long is so = absurd (omega (arith, long, eqb-true n 0 (sym is ∙ so)))

-- PDOs to start with by flags
pub filled_by_test : (bound : ℕ) (rate : Rate) (streams : List Stream) (pdos : ℕ) (flags : List Bool) (test : ℕ → Bool) (placed : List ℕ) (left : ℕ → Bool) → length flags ≡ pdos
    → ((k : ℕ) → k < pdos → is_flagged flags k ≡ test k) → IsFilled bound rate streams (length flags) (is_flagged flags) placed left → IsFilled bound rate streams pdos test placed left
filled_by_test bound rate streams pdos flags test placed left long each filled =
    filled_by bound rate streams pdos (is_flagged flags) test placed left each (subst (λ (n : ℕ). IsFilled bound rate streams n (is_flagged flags) placed left) long filled)

-- of no PDOs left
pub none_are_left : (bound : ℕ) (rate : Rate) (streams : List Stream) (pdos : ℕ) (start : ℕ → Bool) (placed left : List ℕ) → left ≡ []
    → IsFilled bound rate streams pdos start placed (is_listed left) → IsFilled bound rate streams pdos start placed (λ _. false)
none_are_left bound rate streams pdos start placed left none filled = subst (λ (list : List ℕ). IsFilled bound rate streams pdos start placed (is_listed list)) none filled

-- as a filling by flags answers
pub filled_of_all : (bound : ℕ) (rate : Rate) (streams : List Stream) (pdos : ℕ) (all : List Bool) (r : Result Filled AllocError) → length all ≡ pdos → ((k : ℕ) → k < pdos → is_flagged all k ≡ true)
    → IfOk r (λ filled. IsFilled bound rate streams (length all) (is_flagged all) filled.placed.items (is_listed filled.left.items))
    → IfOk r (λ filled. IsFilled bound rate streams pdos (λ k. nat_lt k pdos) filled.placed.items (is_listed filled.left.items))
filled_of_all bound rate streams pdos all r long each = IfOk-weaker r
    (λ filled. IsFilled bound rate streams (length all) (is_flagged all) filled.placed.items (is_listed filled.left.items))
    (λ filled. IsFilled bound rate streams pdos (λ k. nat_lt k pdos) filled.placed.items (is_listed filled.left.items))
    (λ filled h. filled_by_all bound rate streams pdos (is_flagged all) filled.placed.items (is_listed filled.left.items) each
    (subst (λ (n : ℕ). IsFilled bound rate streams n (is_flagged all) filled.placed.items (is_listed filled.left.items)) long h))

pub left_fail : (bound : ℕ) (rate : Rate) (streams : List Stream) (pdos : ℕ) (start : ℕ → Bool) (placed left : List ℕ) → IsFilled bound rate streams pdos start placed (is_listed left)
    → AllPairs (λ m n. m < n) left → All (λ m. m < pdos) left → FailTogether bound streams pdos rate left
left_fail bound rate streams pdos start placed left filled rise inside = record {
  rise = rise;
  inside = inside;
  fail = λ k d h. filled.stuck (get_or left k d) (inside k d h) (listed_at left k d h);
}

pub second_fail : (rate : Rate) (streams : List Stream) (pdos : ℕ) (placed up : List ℕ) → (pdos ≤ second_range.count → IsFilled second_range.least rate streams pdos (λ k. nat_lt k pdos) placed (is_listed up))
    → (second_range.count < pdos → (placed ≡ []) × (up ≡ [])) → AllPairs (λ m n. m < n) up → All (λ m. m < pdos) up → FailTogether second_range.least streams pdos rate up
second_fail rate streams pdos placed up filled none rise inside = go (cases_lt second_range.count pdos)
  where
    go : (second_range.count < pdos) ⊎ (pdos ≤ second_range.count) → FailTogether second_range.least streams pdos rate up
    go (inl many) = let empty = (none many).1 in record { rise = rise; inside = inside; fail = λ k d h. absurd (omega (arith, h, ap length empty)) }
    go (inr few) = left_fail second_range.least rate streams pdos (λ k. nat_lt k pdos) placed up (filled few) rise inside

-- ---- refusals

module _ (rate : Rate) (streams : List Stream) (pdos : ℕ) (few : pdos ≤ length streams) (placed : List ℕ) (r : Refusal) (is_rate : r.rate ≡ rate) where
  at_its_rate : (P : Rate → Type 0) → P rate → P r.rate
  at_its_rate P h = subst P (sym is_rate) h

  greatest_of : (c : Cause) → r.cause ≡ c → IsGreatestCause rate streams pdos c → IsGreatestCause r.rate streams pdos r.cause
  greatest_of c e h = at_its_rate (λ rate. IsGreatestCause rate streams pdos r.cause) (subst (λ (cause : Cause). IsGreatestCause rate streams pdos cause) (sym e) h)

  pub places_found : (left : List ℕ) (made : List Member) → IsFilled first_range.least rate streams pdos (λ k. nat_lt k pdos) placed (is_listed left) → All (λ m. m < pdos) left → 0 < length left
      → r.cause ≡ Places made → pdos_of made ≡ left → IsMade streams pdos r → IsRefusal streams pdos r → IsGreatestRefusal streams pdos r
  places_found left made filled inside some is pdos_are whole holds = record {
    greatest = greatest_of (Places made) is (subst (λ (list : List ℕ). IsGreatestRefusalSet first_range.least rate streams pdos (is_listed list)) (sym pdos_are) greatest);
    made = whole;
    holds = holds;
  }
    where
      greatest : IsGreatestRefusalSet first_range.least rate streams pdos (is_listed left)
      greatest = record {
        is = record { some = (get_or left 0 0, inside 0 0 some, listed_at left 0 0 some); each = filled.stuck };
        greatest = λ others set p below m.
            (left_is_greatest first_range.least rate streams pdos few (λ k. nat_lt k pdos) (is_listed left) placed filled.split filled.passes filled.stuck).greatest others set.each
            (λ k h _. lt-ltb k pdos h) p below m;
      }

  -- where the first range holds all PDOs, none are a refusal set of it
  none_stuck_at_first : IsFilled first_range.least rate streams pdos (λ k. nat_lt k pdos) placed (λ _. false) → (members : ℕ → Bool) → IsRefusalSet first_range.least rate streams pdos members → ⊥
  none_stuck_at_first filled members set =
      let found = (left_is_greatest first_range.least rate streams pdos few (λ k. nat_lt k pdos) (λ _. false) placed filled.split filled.passes filled.stuck).greatest members set.each
      (λ k h _. lt-ltb k pdos h) set.some.0 set.some.1 set.some.2 in
      no_bit false found refl

  pub sdo_found : (second up : List ℕ) (made : List Member) (frame : ℕ) (evidence : Evidence) → IsFilled first_range.least rate streams pdos (λ k. nat_lt k pdos) placed (λ _. false)
      → (pdos ≤ second_range.count → IsFilled second_range.least rate streams pdos (λ k. nat_lt k pdos) second (is_listed up)) → IsLowestFailing rate streams pdos (kept pdos (is_listed up)) frame
      → r.cause ≡ Sdo made (id_at streams frame) evidence → pdos_of made ≡ up → IsMade streams pdos r → IsRefusal streams pdos r → IsGreatestRefusal streams pdos r
  sdo_found second up made frame evidence held filled lowest is pdos_are whole holds = record {
    greatest = greatest_of (Sdo made (id_at streams frame) evidence) is (record {
      none = none_stuck_at_first held;
      greatest = λ room. subst (λ (list : List ℕ). IsGreatestStuckSet second_range.least rate streams pdos (λ k. nat_lt k pdos) (is_listed list)) (sym pdos_are)
          (let f = filled room in left_is_greatest second_range.least rate streams pdos few (λ k. nat_lt k pdos) (is_listed up) second f.split f.passes f.stuck);
      lowest = λ f tested fails. lowest.lowest f tested (subst (λ (list : List ℕ). PassesBelow rate streams pdos (kept pdos (is_listed list)) f → ⊥) pdos_are fails);
    });
    made = whole;
    holds = holds;
  }

-- ---- frames

module _ (rate : Rate) (streams : List Stream) (pdos : ℕ) (a b : ℕ → Bool) (same : (k : ℕ) → k < pdos → a k ≡ b k) where
  trial_same : (bound k : ℕ) → is_in_trial bound streams pdos a k ≡ is_in_trial bound streams pdos b k
  trial_same bound k = go (cases_lt k pdos)
    where
      go : (k < pdos) ⊎ (pdos ≤ k) → is_in_trial bound streams pdos a k ≡ is_in_trial bound streams pdos b k
      go (inl pdo) = trial_of_pdo streams pdos bound a k pdo ∙ same k pdo ∙ sym (trial_of_pdo streams pdos bound b k pdo)
      go (inr fixed) = trial_of_fixed streams pdos bound a k fixed ∙ sym (trial_of_fixed streams pdos bound b k fixed)

  pub passes_below_same : (f : ℕ) → PassesBelow rate streams pdos a f → PassesBelow rate streams pdos b f
  passes_below_same f passes =
      let tests : is_in_trial (id_at streams f) streams pdos a ≡ is_in_trial (id_at streams f) streams pdos b = λ i k. trial_same (id_at streams f) k i in
      subst (λ (test : ℕ → Bool). Passes (place_among streams test f rate)) tests passes

pub lowest_same : (rate : Rate) (streams : List Stream) (pdos : ℕ) (a b : ℕ → Bool) (frame : ℕ) → ((k : ℕ) → k < pdos → a k ≡ b k) → IsLowestFailing rate streams pdos a frame → IsLowestFailing rate streams pdos b frame
lowest_same rate streams pdos a b frame same lowest = record {
  tested = lowest.tested;
  fails = λ passes. lowest.fails (passes_below_same rate streams pdos b a (λ k h. sym (same k h)) frame passes);
  lowest = λ f tested fails. lowest.lowest f tested (λ passes. fails (passes_below_same rate streams pdos a b same f passes));
}

pub frames_same : (rate : Rate) (streams : List Stream) (pdos : ℕ) (a b : ℕ → Bool) → ((k : ℕ) → k < pdos → a k ≡ b k) → FramesPass rate streams pdos a → FramesPass rate streams pdos b
frames_same rate streams pdos a b same pass f tested = passes_below_same rate streams pdos a b same f (pass f tested)

-- by flags
pub lowest_by_flags : (rate : Rate) (streams : List Stream) (pdos : ℕ) (flags : List Bool) (test : ℕ → Bool) (frame : ℕ) → length flags ≡ pdos → ((k : ℕ) → k < pdos → is_flagged flags k ≡ test k)
    → IsLowestFailing rate streams (length flags) (is_flagged flags) frame → IsLowestFailing rate streams pdos test frame
lowest_by_flags rate streams pdos flags test frame long each lowest =
    lowest_same rate streams pdos (is_flagged flags) test frame each (subst (λ (n : ℕ). IsLowestFailing rate streams n (is_flagged flags) frame) long lowest)

pub frames_by_flags : (rate : Rate) (streams : List Stream) (pdos : ℕ) (flags : List Bool) (test : ℕ → Bool) → length flags ≡ pdos → ((k : ℕ) → k < pdos → is_flagged flags k ≡ test k)
    → FramesPass rate streams (length flags) (is_flagged flags) → FramesPass rate streams pdos test
frames_by_flags rate streams pdos flags test long each pass =
    frames_same rate streams pdos (is_flagged flags) test each (subst (λ (n : ℕ). FramesPass rate streams n (is_flagged flags)) long pass)

-- ---- numbers

-- what is found over both ranges takes one trial for each PDO at least, and one busy time
pub least_over_both : (r : Result Found AllocError) (pdos old mid new : ℕ) → old + pdos ≤ mid → mid ≤ new → IfOk r (λ found. members_found found ≡ 0) → IfOk r (λ found. old + least_found pdos found ≤ new)
least_over_both (Err e) pdos old mid new first rest by_sdo = tt
least_over_both (Ok (Placed lower upper)) pdos old mid new first rest by_sdo = omega (arith, first, rest)
least_over_both (Ok (Refused r)) pdos old mid new first rest by_sdo = omega (arith, first, rest, by_sdo)

filled_once : (c : Cause) → is_filled c ≤ 1
filled_once (Places members) = omega arith
filled_once (Sync busy) = omega arith
filled_once (Sdo up id evidence) = omega arith

pub filled_over_both : (r : Result Found AllocError) (pdos old mid new : ℕ) → (1 ≤ pdos → old + 1 ≤ mid) → mid ≤ new → IfOk r (λ found. 1 ≤ pdos → old + filled_found found ≤ new)
filled_over_both (Err e) pdos old mid new first rest = tt
filled_over_both (Ok (Placed lower upper)) pdos old mid new first rest = λ some. omega (arith, first some, rest)
filled_over_both (Ok (Refused r)) pdos old mid new first rest = λ some. (let one = filled_once r.cause in omega (arith, first some, rest, one))

-- ---- identifiers

number_false : (n : ℕ) → number n (λ _. false) ≡ 0
unfolding sum_where
number_false zero = refl
number_false (suc n) = omega (arith, number_false n)

number_below : (n : ℕ) → number n (λ k. nat_lt k n) ≡ n
number_below n = number_all n (λ k. nat_lt k n) (λ k h. lt-ltb k n h)

number_of_none : (n : ℕ) (test : ℕ → Bool) → ((k : ℕ) → k < n → test k ≡ false) → number n test ≡ 0
number_of_none n test none = count_alike n test (λ _. false) none ∙ number_false n

-- where all PDOs stand in the first range
all_upper : (pdos : ℕ) (upper : List ℕ) (left : ℕ → Bool) → AreSplit pdos (λ k. nat_lt k pdos) upper left → ((k : ℕ) → k < pdos → left k ≡ false) → ArePlaced pdos [] upper
all_upper pdos upper left split none = record {
  distinct_lower = tt;
  distinct_upper = split.distinct;
  apart = λ k m. absurd (no_bit false m refl);
  each = λ k h. sym (or_false (is_listed upper k)) ∙ ap (λ (b : Bool). is_listed upper k || b) (sym (none k h)) ∙ split.each k h ∙ lt-ltb k pdos h;
  inside_lower = λ k m. absurd (no_bit false m refl);
  inside_upper = split.inside;
  count = omega (arith, split.counted, number_of_none pdos left none, number_below pdos);
  room = omega arith;
}

-- where those of a test stand there, and the others in the second
both_placed : (pdos : ℕ) (lower upper : List ℕ) (top left : ℕ → Bool) → pdos ≤ second_range.count → AreSplit pdos (λ k. nat_lt k pdos) lower top → AreSplit pdos top upper left
    → ((k : ℕ) → k < pdos → left k ≡ false) → ArePlaced pdos lower upper
both_placed pdos lower upper top left room below above none = record {
  distinct_lower = below.distinct;
  distinct_upper = above.distinct;
  apart = λ k m. apart k m (below.inside k m);
  each = λ k h. each k h (or_cases (is_listed lower k) (top k) (below.each k h ∙ lt-ltb k pdos h));
  inside_lower = below.inside;
  inside_upper = above.inside;
  count = omega (arith, below.counted, above.counted, number_of_none pdos left none, number_below pdos);
  room = omega (arith, below.counted, number_below pdos, room);
}
  where
    upper_is : (k : ℕ) → k < pdos → is_listed upper k ≡ top k
    upper_is k h = sym (or_false (is_listed upper k)) ∙ ap (λ (b : Bool). is_listed upper k || b) (sym (none k h)) ∙ above.each k h

    apart : (k : ℕ) → is_listed lower k ≡ true → k < pdos → is_listed upper k ≡ false
    apart k m h = upper_is k h ∙ below.apart k m

    each : (k : ℕ) → k < pdos → (is_listed lower k ≡ true) ⊎ (top k ≡ true) → (is_listed lower k || is_listed upper k) ≡ true
    each k h (inl m) = or_left (is_listed lower k) (is_listed upper k) m
    each k h (inr m) = or_right (is_listed lower k) (is_listed upper k) (upper_is k h ∙ m)

module _ (rate : Rate) (streams : List Stream) (pdos : ℕ) (few : pdos ≤ length streams) (room : pdos ≤ first_range.count)
    (outside_first : AreOutside first_range streams pdos) (outside_second : AreOutside second_range streams pdos)
    (first : List ℕ) (filled : IsFilled first_range.least rate streams pdos (λ k. nat_lt k pdos) first (λ _. false)) where
  none : (k : ℕ) → k < pdos → ◌≡◌ {A = Bool} false false
  none k h = refl

  -- the first range alone
  pub alone_planned : FramesPass rate streams pdos (λ k. nat_lt k pdos) → ArePlanned rate streams pdos [] first
  alone_planned frames = record {
    placed = all_upper pdos first (λ _. false) filled.split none;
    order = first_alone_order rate streams pdos few room outside_first outside_second first (λ _. false) filled none frames;
    tested = λ some. absurd (omega (arith, some));
  }

  -- both ranges
  module _ (second third : List ℕ) (top left : ℕ → Bool)
      (lower : pdos ≤ second_range.count → IsFilled second_range.least rate streams pdos (λ k. nat_lt k pdos) second top) (empty : second_range.count < pdos → second ≡ [])
      (upper : IsFilled first_range.least rate streams pdos (kept pdos top) third left) (fails : FailsBelow rate streams pdos (λ k. nat_lt k pdos)) (frames : FramesPass rate streams pdos (kept pdos top)) where
    none_left : (k : ℕ) → k < pdos → left k ≡ false
    none_left = none_left_above rate streams pdos few room outside_first outside_second first (λ _. false) filled second third top left lower upper none

    ordered : IsPlanOrder rate streams pdos (ids_in_ranges (if nat_le pdos second_range.count then second else []) third)
    ordered =
        fillings_order rate streams pdos few room outside_first outside_second first (λ _. false) filled none second third top left lower upper (λ pass. fails.2 (pass fails.0 fails.1)) frames

    list_is : (second_range.count < pdos) ⊎ (pdos ≤ second_range.count) → (if nat_le pdos second_range.count then second else []) ≡ second
    list_is (inl many) = cond-false (nat_le pdos second_range.count) second [] (lt-leb pdos second_range.count many) ∙ sym (empty many)
    list_is (inr small) = cond-true (nat_le pdos second_range.count) second [] (le-leb pdos second_range.count small)

    placed : (second_range.count < pdos) ⊎ (pdos ≤ second_range.count) → ArePlaced pdos second third
    placed (inl many) =
        let start : (k : ℕ) → k < pdos → kept pdos top k ≡ nat_lt k pdos = λ k h. cond-false (nat_le pdos second_range.count) (top k) (nat_lt k pdos) (lt-leb pdos second_range.count many) in
        let split = (filled_by first_range.least rate streams pdos (kept pdos top) (λ k. nat_lt k pdos) third left start upper).split in
        subst (λ (list : List ℕ). ArePlaced pdos list third) (sym (empty many)) (all_upper pdos third left split none_left)
    placed (inr small) =
        let start : (k : ℕ) → k < pdos → kept pdos top k ≡ top k = λ k h. cond-true (nat_le pdos second_range.count) (top k) (nat_lt k pdos) (le-leb pdos second_range.count small) in
        let split = (filled_by first_range.least rate streams pdos (kept pdos top) top third left start upper).split in
        both_placed pdos second third top left small (lower small).split split none_left

    pub both_planned : ArePlanned rate streams pdos second third
    both_planned = record {
      placed = placed (cases_lt second_range.count pdos);
      order = subst (λ (list : List ℕ). IsPlanOrder rate streams pdos (ids_in_ranges list third)) (list_is (cases_lt second_range.count pdos)) ordered;
      tested = λ some. (fails.0, fails.1);
    }
