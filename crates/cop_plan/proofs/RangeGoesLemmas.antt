-- Places of a range filled one after the other: what holds on the way, whatever the bound of the flags is.
use Rattle.std.proofs.Common.{◌≡◌, ◌≢◌, ℕ, suc, ◌+◌, ◌-◌, ◌*◌, mul-le-mul, ◌<◌, ◌≤◌, ◌⊎◌, inl, inr, Bool, true, false, ◌==◌, ◌||◌, ◌&&◌, nat_lt, List, [], ◌∷◌, ◌++◌, length, set, refl, sym, ap, ◌∙◌, subst, arith, true≢false, length-append}
use Rattle.std.proofs.lemmas.Bool.{cases_eq, cases_lt, cases_Bool, or_cases, eq-eqb, ne_eqb, lt-ltb, ltb-true}
use Rattle.std.proofs.lemmas.List.{length-set}
use Rattle.cop_frame.specs.declared.rates.Rate.{Rate}
use Rattle.cop_rta.specs.declared.streams.Stream.{Stream}
use Rattle.cop_rta.specs.Test.{place_among, Passes, flagged_place, is_flagged}
use Rattle.cop_rta.specs.Placing.{Flags, place_in, HasOneAbove}
use Rattle.cop_cert.specs.Evidence.{is_listed}
use Rattle.cop_cert.specs.Sets.{trial, is_in_trial}
use Rattle.cop_cert.proofs.AboveLemmas.{trial_of_pdo, trial_of_fixed}
use Rattle.cop_plan.specs.Fillings.{AreDistinct}
use Rattle.cop_plan.specs.Fillings.{with_left, number, PassInTurn, LaterFail, AreSplit, IsFilled, is_flagged_pdo, AreTrialOf}
use Rattle.cop_plan.proofs.FillingLemmas.{no_bit}
use Rattle.cop_plan.proofs.GreedyLemmas.{among_push, count_less, count_some, count_none, left_is_flagged, flag_gone, flag_kept, flagged_are_left}

-- ---- one more is placed

module _ (left rest : ℕ → Bool) (p : ℕ) (here : left p ≡ true) (gone : rest p ≡ false) (others : (k : ℕ) → k ≢ p → rest k ≡ left k) where
  -- those placed and those left are the same
  with_left_push : (fill : List ℕ) (k : ℕ) → with_left (fill ++ p ∷ []) rest k ≡ with_left fill left k
  with_left_push fill k = ap (λ (b : Bool). b || rest k) (among_push fill p k) ∙ go (cases_eq k p)
    where
      one : (a : Bool) → ((a || true) || false) ≡ (a || true)
      one true = refl
      one false = refl

      other : (a b : Bool) → ((a || false) || b) ≡ (a || b)
      other true b = refl
      other false b = refl

      go : (k ≡ p) ⊎ (k ≡ p → ⊥) → ((is_listed fill k || (p == k)) || rest k) ≡ (is_listed fill k || left k)
      go (inl e) = rw (e, eq-eqb p p refl, gone, here) (one (is_listed fill p))
      go (inr apart) = rw (ne_eqb p k (λ e. apart (sym e)), others k apart) (other (is_listed fill k) (left k))

  with_left_same : (fill : List ℕ) → with_left fill left ≡ with_left (fill ++ p ∷ []) rest
  with_left_same fill = λ i k. sym (with_left_push fill k) i

  module _ (bound : ℕ) (rate : Rate) (streams : List Stream) (pdos : ℕ) (passes : Passes (trial bound rate streams pdos left p))
      (last : (r : ℕ) → p < r → left r ≡ true → Passes (trial bound rate streams pdos left r) → ⊥) where
    here_alone : left ≡ with_left (p ∷ []) rest
    here_alone = with_left_same []

    pub passes_push : (fill : List ℕ) → PassInTurn bound rate streams pdos left fill → PassInTurn bound rate streams pdos rest (fill ++ p ∷ [])
    passes_push [] f = (subst (λ (above : ℕ → Bool). Passes (trial bound rate streams pdos above p)) here_alone passes, tt)
    passes_push (q ∷ fill) f = (
      subst (λ (above : ℕ → Bool). Passes (trial bound rate streams pdos above q)) (with_left_same (q ∷ fill)) f.0,
      passes_push fill f.1,
    )

    pub later_push : (fill : List ℕ) → LaterFail bound rate streams pdos left fill → LaterFail bound rate streams pdos rest (fill ++ p ∷ [])
    later_push [] f = (
      λ r m up good.
          let apart : r ≢ p = λ e. omega (arith, e, up) in
          last r up (sym (others r apart) ∙ m) (subst (λ (above : ℕ → Bool). Passes (trial bound rate streams pdos above r)) (sym here_alone) good),
      tt,
    )
    later_push (q ∷ fill) f = (
      λ r m up good. f.0 r (sym (with_left_push fill r) ∙ m) up (subst (λ (above : ℕ → Bool). Passes (trial bound rate streams pdos above r)) (sym (with_left_same (q ∷ fill))) good),
      later_push fill f.1,
    )

  distinct_push : (fill : List ℕ) → AreDistinct fill → is_listed fill p ≡ false → AreDistinct (fill ++ p ∷ [])
  distinct_push [] d absent = (refl, tt)
  distinct_push (q ∷ fill) d absent = (
    among_push fill p q ∙ neither (is_listed fill q) (p == q) d.0 (sym_eqb (cases_eq p q)),
    distinct_push fill d.1 (second (q == p) (is_listed fill p) absent),
  )
    where
      neither : (a b : Bool) → a ≡ false → b ≡ false → (a || b) ≡ false
      neither a b e f = rw (e, f) refl

      second : (a b : Bool) → (a || b) ≡ false → b ≡ false
      second true b e = absurd (true≢false e)
      second false b e = e

      first : (a b : Bool) → (a || b) ≡ false → a ≡ false
      first true b e = absurd (true≢false e)
      first false b e = refl

      sym_eqb : (p ≡ q) ⊎ (p ≡ q → ⊥) → (p == q) ≡ false
      sym_eqb (inl e) = absurd (no_bit (q == p) (eq-eqb q p (sym e)) (first (q == p) (is_listed fill p) absent))
      sym_eqb (inr apart) = ne_eqb p q apart

  pub split_push : (pdos : ℕ) (start : ℕ → Bool) (fill : List ℕ) → p < pdos → AreSplit pdos start fill left → AreSplit pdos start (fill ++ p ∷ []) rest
  split_push pdos start fill below split = record {
    distinct = distinct_push fill split.distinct (absent (cases_Bool (is_listed fill p)));
    inside = λ k m. inside k (or_cases (is_listed fill k) (p == k) (sym (among_push fill p k) ∙ m)) (cases_eq k p);
    bounded = λ k m. bounded k m (cases_eq k p);
    apart = λ k m. apart k (or_cases (is_listed fill k) (p == k) (sym (among_push fill p k) ∙ m)) (cases_eq k p);
    each = λ k i. with_left_push fill k ∙ split.each k i;
    counted = simp length-append (omega (arith, split.counted, count_less pdos p left rest below here gone others));
  }
    where
      absent : (is_listed fill p ≡ true) ⊎ (is_listed fill p ≡ false) → is_listed fill p ≡ false
      absent (inl m) = absurd (no_bit (left p) here (split.apart p m))
      absent (inr e) = e

      inside : (k : ℕ) → (is_listed fill k ≡ true) ⊎ ((p == k) ≡ true) → (k ≡ p) ⊎ (k ≡ p → ⊥) → k < pdos
      inside k _ (inl e) = omega (arith, e, below)
      inside k (inl m) (inr other) = split.inside k m
      inside k (inr e) (inr other) = absurd (no_bit (p == k) e (ne_eqb p k (λ same. other (sym same))))

      bounded : (k : ℕ) → rest k ≡ true → (k ≡ p) ⊎ (k ≡ p → ⊥) → k < pdos
      bounded k m (inl e) = omega (arith, e, below)
      bounded k m (inr other) = split.bounded k (sym (others k other) ∙ m)

      apart : (k : ℕ) → (is_listed fill k ≡ true) ⊎ ((p == k) ≡ true) → (k ≡ p) ⊎ (k ≡ p → ⊥) → rest k ≡ false
      apart k _ (inl e) = rw e gone
      apart k (inl m) (inr other) = others k other ∙ split.apart k m
      apart k (inr e) (inr other) = absurd (no_bit (p == k) e (ne_eqb p k (λ same. other (sym same))))

-- ---- flags of the trial of the PDOs that are left

-- a test of the flags is the trial
pub flags_are_trial : (bound : ℕ) (rate : Rate) (streams : List Stream) (pdos p : ℕ) (flags : List Bool) → AreTrialOf bound streams pdos flags
    → flagged_place streams flags p rate ≡ trial bound rate streams pdos (is_flagged_pdo pdos flags) p
flags_are_trial bound rate streams pdos p flags t =
    let same : is_flagged flags ≡ is_in_trial bound streams pdos (is_flagged_pdo pdos flags) = λ i k. t.each k i in
    ap (λ (test : ℕ → Bool). place_among streams test p rate) same

-- flags of a trial under which others are flagged among the PDOs
pub trial_after : (bound : ℕ) (streams : List Stream) (pdos : ℕ) (first now : List Bool) → ((k : ℕ) → pdos ≤ k → is_flagged now k ≡ is_flagged first k)
    → AreTrialOf bound streams pdos first → AreTrialOf bound streams pdos now
trial_after bound streams pdos first now kept t = record { each = λ k. go k (cases_lt k pdos) } where
  mine : (k : ℕ) → (b : Bool) → nat_lt k pdos ≡ true → b ≡ (nat_lt k pdos && b)
  mine k b e = rw e refl

  go : (k : ℕ) → (k < pdos) ⊎ (pdos ≤ k) → is_flagged now k ≡ is_in_trial bound streams pdos (is_flagged_pdo pdos now) k
  go k (inl pdo) = mine k (is_flagged now k) (lt-ltb k pdos pdo) ∙ sym (trial_of_pdo streams pdos bound (is_flagged_pdo pdos now) k pdo)
  go k (inr fixed) =
      kept k fixed ∙ t.each k ∙ trial_of_fixed streams pdos bound (is_flagged_pdo pdos first) k fixed ∙ sym (trial_of_fixed streams pdos bound (is_flagged_pdo pdos now) k fixed)

-- ---- what holds while places are filled: where some PDO is left, the flags of the place are of those that are

pub record Goes (first now : Flags) (pdos size placed : ℕ) (fill : List ℕ) : Type 0 where
  pub left : List Bool
  pub long : length left ≡ length first.streams
  pub fixed : (k : ℕ) → pdos ≤ k → is_flagged left k ≡ is_flagged first.flags k
  pub split : AreSplit pdos (is_flagged_pdo pdos first.flags) fill (is_flagged_pdo pdos left)
  pub passes : (bound : ℕ) → AreTrialOf bound first.streams pdos first.flags → PassInTurn bound first.rate first.streams pdos (is_flagged_pdo pdos left) fill
  pub later : (bound : ℕ) → AreTrialOf bound first.streams pdos first.flags → LaterFail bound first.rate first.streams pdos (is_flagged_pdo pdos left) fill
  pub placed_are : length fill ≡ placed
  pub same : placed < size → now ≡ record first { flags = left }

both_true : (a b : Bool) → (a && b) ≡ true → a ≡ true
both_true true b h = refl
both_true false b h = h

pub goes_first : (first : Flags) (pdos size : ℕ) (fill : List ℕ) → length first.flags ≡ length first.streams → fill ≡ [] → Goes first first pdos size 0 fill
goes_first first pdos size fill long none = rw none (record {
  left = first.flags;
  long = long;
  fixed = λ k h. refl;
  split = record {
    distinct = tt;
    inside = λ k m. absurd (no_bit false m refl);
    bounded = λ k m. ltb-true k pdos (both_true (nat_lt k pdos) (is_flagged first.flags k) m);
    apart = λ k m. absurd (no_bit false m refl);
    each = λ k below. refl;
    counted = omega arith;
  };
  passes = λ bound t. tt;
  later = λ bound t. tt;
  placed_are = refl;
  same = λ _. refl;
})

module _ (first now : Flags) (pdos size placed : ℕ) (fill : List ℕ) (few : pdos ≤ length first.streams) (all : size ≡ number pdos (is_flagged first.flags))
    (g : Goes first now pdos size placed fill) where
  -- as many are left as have no place yet
  pub goes_left : length fill + number pdos (is_flagged g.left) ≡ size
  goes_left = omega (arith, flagged_are_left pdos g.left, flagged_are_left pdos first.flags, all, g.split.counted)

  module _ (some : placed < size) where
    pub goes_streams : now.streams ≡ first.streams
    goes_streams = ap (λ (v : Flags). v.streams) (g.same some)

    goes_flags : now.flags ≡ g.left
    goes_flags = ap (λ (v : Flags). v.flags) (g.same some)

    pub goes_number : number pdos (is_flagged now.flags) ≡ size - placed
    goes_number = rw goes_flags (omega (arith, goes_left, g.placed_are))

    trial_at : (bound p : ℕ) → AreTrialOf bound first.streams pdos first.flags → place_in now p ≡ trial bound first.rate first.streams pdos (is_flagged_pdo pdos g.left) p
    trial_at bound p t =
        ap (λ (v : Flags). place_in v p) (g.same some)
        ∙ flags_are_trial bound first.rate first.streams pdos p g.left (trial_after bound first.streams pdos first.flags g.left g.fixed t)

    -- one of them takes the place
    pub goes_next : (pdo : ℕ) (after : Flags) (longer : List ℕ) → pdo < pdos → is_flagged now.flags pdo ≡ true → Passes (place_in now pdo)
        → ((r : ℕ) → r < pdos → pdo < r → is_flagged now.flags r ≡ true → Passes (place_in now r) → ⊥)
        → longer ≡ fill ++ pdo ∷ [] → (placed + 1 < size → after ≡ record now { flags = set now.flags pdo false }) → Goes first after pdos size (placed + 1) longer
    goes_next pdo after longer below flag passes last is lowered = record {
      left = set g.left pdo false;
      long = length-set g.left pdo false ∙ g.long;
      fixed = λ k h. flag_kept g.left pdo k (λ e. omega (arith, e, below, h)) ∙ g.fixed k h;
      split = rw is (split_push (is_flagged_pdo pdos g.left) (is_flagged_pdo pdos (set g.left pdo false)) pdo here gone others pdos (is_flagged_pdo pdos first.flags) fill below g.split);
      passes = λ bound t. rw is (passes_push (is_flagged_pdo pdos g.left) (is_flagged_pdo pdos (set g.left pdo false)) pdo here gone others bound first.rate first.streams pdos
          (subst Passes (trial_at bound pdo t) passes) (failed bound t) fill (g.passes bound t));
      later = λ bound t. rw is (later_push (is_flagged_pdo pdos g.left) (is_flagged_pdo pdos (set g.left pdo false)) pdo here gone others bound first.rate first.streams pdos
          (subst Passes (trial_at bound pdo t) passes) (failed bound t) fill (g.later bound t));
      placed_are = rw is (simp length-append (omega (arith, g.placed_are)));
      same = λ more. lowered more ∙ ap (λ (v : Flags). record v { flags = set v.flags pdo false }) (g.same some);
    }
      where
        inside : pdo < length g.left
        inside = omega (arith, below, few, g.long)

        here : is_flagged_pdo pdos g.left pdo ≡ true
        here = rw (lt-ltb pdo pdos below) (rw goes_flags at flag)

        gone : is_flagged_pdo pdos (set g.left pdo false) pdo ≡ false
        gone = rw (lt-ltb pdo pdos below) (flag_gone g.left pdo inside)

        others : (k : ℕ) → k ≢ pdo → is_flagged_pdo pdos (set g.left pdo false) k ≡ is_flagged_pdo pdos g.left k
        others k apart = ap (λ (b : Bool). nat_lt k pdos && b) (flag_kept g.left pdo k apart)

        failed : (bound : ℕ) → AreTrialOf bound first.streams pdos first.flags → (r : ℕ) → pdo < r → is_flagged_pdo pdos g.left r ≡ true
            → Passes (trial bound first.rate first.streams pdos (is_flagged_pdo pdos g.left) r) → ⊥
        failed bound t r up m good =
            last r (g.split.bounded r m) up (rw goes_flags (left_is_flagged pdos r g.left m)) (subst Passes (sym (trial_at bound r t)) good)

    -- and another is left above
    pub goes_another : (pdo : ℕ) → pdo < pdos → is_flagged now.flags pdo ≡ true → placed + 1 < size → HasOneAbove (set now.flags pdo false)
    goes_another pdo below flag more =
        let inside : pdo < length now.flags = omega (arith, below, few, g.long, ap length goes_flags) in
        let fewer : suc (number pdos (is_flagged (set now.flags pdo false))) ≡ number pdos (is_flagged now.flags) =
        count_less pdos pdo (is_flagged now.flags) (is_flagged (set now.flags pdo false)) below flag (flag_gone now.flags pdo inside) (λ k apart. flag_kept now.flags pdo k apart) in
        let found = count_some pdos (is_flagged (set now.flags pdo false)) (omega (arith, fewer, goes_number, more)) in
        (found.0, omega (arith, found.1, few, g.long, ap length goes_flags, length-set now.flags pdo false), found.2)

    -- none of them passes
    pub goes_stuck : (members : List ℕ) → ((k : ℕ) → is_listed members k ≡ (nat_lt k pdos && is_flagged now.flags k))
        → ((r : ℕ) → r < pdos → is_flagged now.flags r ≡ true → Passes (place_in now r) → ⊥)
        → (bound : ℕ) → AreTrialOf bound first.streams pdos first.flags → IsFilled bound first.rate first.streams pdos (is_flagged_pdo pdos first.flags) fill (is_listed members)
    goes_stuck members exact none bound t =
        let test : is_flagged_pdo pdos g.left ≡ is_listed members = λ i k. sym ((rw goes_flags at exact) k) i in
        subst (λ (left : ℕ → Bool). IsFilled bound first.rate first.streams pdos (is_flagged_pdo pdos first.flags) fill left) test
        (record {
          split = g.split;
          passes = g.passes bound t;
          later = g.later bound t;
          stuck = λ r below m good. none r below (rw goes_flags (left_is_flagged pdos r g.left m)) (subst Passes (sym (trial_at bound r t)) good);
        })

  -- each PDO has its place
  pub goes_whole : placed ≡ size → (members : List ℕ) → members ≡ [] → (bound : ℕ) → AreTrialOf bound first.streams pdos first.flags
      → IsFilled bound first.rate first.streams pdos (is_flagged_pdo pdos first.flags) fill (is_listed members)
  goes_whole done members empty bound t =
      let test : is_flagged_pdo pdos g.left ≡ is_listed [] = λ i k. none k (cases_Bool (is_flagged_pdo pdos g.left k)) i in
      rw empty (subst (λ (left : ℕ → Bool). IsFilled bound first.rate first.streams pdos (is_flagged_pdo pdos first.flags) fill left) test
      (record {
        split = g.split;
        passes = g.passes bound t;
        later = g.later bound t;
        stuck = λ r below m good. no_bit (is_flagged_pdo pdos g.left r) m (none r (cases_Bool (is_flagged_pdo pdos g.left r)));
      }))
    where
      none : (k : ℕ) → (is_flagged_pdo pdos g.left k ≡ true) ⊎ (is_flagged_pdo pdos g.left k ≡ false) → is_flagged_pdo pdos g.left k ≡ false
      none k (inr e) = e
      none k (inl m) = absurd (no_bit (is_flagged g.left k) (left_is_flagged pdos k g.left m)
          (count_none pdos (is_flagged g.left) (omega (arith, goes_left, g.placed_are, done)) k (g.split.bounded k m)))

-- the counter has room
pub trials_room : (trials old size left pdos : ℕ) → size ≤ pdos → pdos ≤ 1100 → old ≤ 8589934592 → 2 * trials + left * (left + 1) ≤ 2 * old + size * (size + 1) → trials + pdos < 18446744073709551616
trials_room trials old size left pdos fewer few low h =
    let most : size * (size + 1) ≤ 1100 * 1101 = mul-le-mul {n₁ = size} {m₁ = size + 1} {n₂ = 1100} {m₂ = 1101} (omega (arith, few, fewer)) (omega (arith, few, fewer)) in
    omega (arith, h, most, few, low)
