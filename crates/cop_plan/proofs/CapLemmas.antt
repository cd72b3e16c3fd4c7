-- No identifiers leave a stream more than its cap.
use Rattle.std.proofs.Common.{◌≡◌, ℕ, zero, suc, ◌-◌, ◌<◌, ◌≤◌, ◌⊎◌, inl, inr, ◌||◌, ◌&&◌, Bool, true, false, true≢false, nat_lt, nat_le, if◌then◌else◌, List, [], ◌∷◌, length, slice_get, Option, Some, None, is_some, option_map, refl, sym, ap, ◌∙◌, subst, arith, ⊎_elim}
use Rattle.std.specs.Option.{option_map_or, option_and_then, IsSomeAnd}
use Rattle.std.proofs.lemmas.Bool.{cases_lt, le-ltb, lt-ltb, leb-true, cond-true, cond-false, or_cases, and_parts}
use Rattle.std.proofs.lemmas.Option.{slice_get_cases}
use Rattle.cop_frame.specs.declared.rates.Rate.{Rate}
use Rattle.cop_rta.specs.declared.streams.Stream.{Stream}
use Rattle.cop_rta.specs.Entries.{Entry, entry_of}
use Rattle.cop_rta.specs.Greatest.{HasGreatest}
use Rattle.cop_rta.specs.Test.{StreamPlace, Passes, IsQueuedWithin, busy_at, greatest_response, ahead_of}
use Rattle.cop_rta.specs.Verdict.{PassesBy, IsFirstLate, IsLong}
use Rattle.cop_rta.specs.Witnesses.{HasMoreAbove}
use Rattle.cop_rta.proofs.GreatestLemmas.{has_greatest, greatest_response_is, same_response, none_is_long}
use Rattle.cop_rta.proofs.LeastLemmas.{same_least}
use Rattle.cop_rta.proofs.MoreAbove.{passes_under_fewer}
use Rattle.cop_cert.specs.Assignments.{least_id, id_at, is_lower, place_under, IsAssignment, IsSdo, IsPassing}
use Rattle.cop_cert.specs.Sets.{is_in_trial, trial}
use Rattle.cop_cert.proofs.AboveLemmas.{set_within_ids}
use Rattle.cop_cert.proofs.RangeLemmas.{set_within_ids_at, permitted_low}
use Rattle.cop_plan.specs.Caps.{deadline_of, is_sdo, is_judged, bound_of, best_place, left_at, cap_of}
use Rattle.cop_plan.specs.Margins.{lower, AreLoweredBy, has_deadline}
use Rattle.cop_plan.proofs.LeavesLemmas.{some_response, on_time_by_greatest}
use Rattle.cop_plan.proofs.MarginLemmas.{entry_at, same_id, lowered_length, lowered_deadline, askings_lowered, alike, tested_after}
use Rattle.cop_plan.proofs.SameAsking.{place_at, same_greatest}
use Rattle.cop_plan.proofs.SameSync.{ahead_same}

-- ---- deadlines

pub dated_inside : (streams : List Stream) (k d : ℕ) → deadline_of streams k ≡ Some d → k < length streams
dated_inside streams k d e = ⊎_elim (λ s. s.1) (λ past. absurd (missing past.1)) (slice_get_cases streams k).1
  where
    missing : slice_get streams k ≡ None → ⊥
    missing none =
        let same : deadline_of streams k ≡ None = ap (λ (o : Option Stream). option_and_then (λ (s : Stream). s.deadline) o) none in
        let bad : ◌≡◌ {A = Option ℕ} None (Some d) = sym same ∙ e in cc

least_in : (o : Option Stream) (d : ℕ) → option_and_then (λ (s : Stream). s.deadline) o ≡ Some d → 1 ≤ d
least_in None d e = absurd (cc)
least_in (Some s) d e = s.deadline_least d e

most_in : (o : Option Stream) (d : ℕ) → option_and_then (λ (s : Stream). s.deadline) o ≡ Some d → d ≤ 240000000
most_in None d e = absurd (cc)
most_in (Some s) d e = s.deadline_most d e

pub deadline_is_some : (streams : List Stream) (k d : ℕ) → deadline_of streams k ≡ Some d → 1 ≤ d
deadline_is_some streams k d e = least_in (slice_get streams k) d e

pub deadline_is_below : (streams : List Stream) (k d : ℕ) → deadline_of streams k ≡ Some d → d ≤ 240000000
deadline_is_below streams k d e = most_in (slice_get streams k) d e

either : (o : Option ℕ) (b : Bool) → (is_some o || b) ≡ true → ((d : ℕ) × (o ≡ Some d)) ⊎ (b ≡ true)
either None b e = inr e
either (Some d) b e = inl (d, refl)

neither : (o : Option ℕ) (b : Bool) (d : ℕ) → (is_some o || b) ≡ false → o ≡ Some d → ⊥
neither None b d e there = cc
neither (Some x) b d e there = true≢false e

rest : (o : Option ℕ) (b : Bool) → (is_some o || b) ≡ false → b ≡ false
rest None b e = e
rest (Some x) b e = absurd (true≢false e)

abbrev pub HasDated : List Stream → Type 0
HasDated streams = (k : ℕ) × (d : ℕ) × (deadline_of streams k ≡ Some d)

dated_in : (s : Stream) (ss : List Stream) → (has_deadline ss ≡ true → HasDated ss) → ((d : ℕ) × (s.deadline ≡ Some d)) ⊎ (has_deadline ss ≡ true) → HasDated (s ∷ ss)
dated_in s ss later (inl here) = (0, here.0, here.1)
dated_in s ss later (inr there) = let r = later there in (suc r.0, r.1, r.2)

pub some_dated : (streams : List Stream) → has_deadline streams ≡ true → HasDated streams
some_dated [] e = absurd (true≢false (sym e))
some_dated (s ∷ ss) e = dated_in s ss (λ there. some_dated ss there) (either s.deadline (has_deadline ss) e)

pub none_dated : (streams : List Stream) → has_deadline streams ≡ false → (k d : ℕ) → deadline_of streams k ≡ Some d → ⊥
none_dated [] e k d there = cc
none_dated (s ∷ ss) e zero d there = neither s.deadline (has_deadline ss) d e there
none_dated (s ∷ ss) e (suc k) d there = none_dated ss (rest s.deadline (has_deadline ss) e) k d there

-- ---- caps by cases

module _ (rate : Rate) (streams : List Stream) (pdos k : ℕ) where
  abbrev cap_in : Option ℕ → ℕ
  cap_in o = option_map_or (λ deadline. if is_judged streams pdos k then left_at (best_place rate streams pdos k) deadline else deadline - 1) o 0

  pub cap_judged : (d : ℕ) → deadline_of streams k ≡ Some d → is_judged streams pdos k ≡ true → cap_of rate streams pdos k ≡ left_at (best_place rate streams pdos k) d
  unfolding cap_of
  cap_judged d e j = ap (λ (o : Option ℕ). cap_in o) e ∙ cond-true (is_judged streams pdos k) (left_at (best_place rate streams pdos k) d) (d - 1) j

  pub cap_free : (d : ℕ) → deadline_of streams k ≡ Some d → is_judged streams pdos k ≡ false → cap_of rate streams pdos k ≡ d - 1
  unfolding cap_of
  cap_free d e j = ap (λ (o : Option ℕ). cap_in o) e ∙ cond-false (is_judged streams pdos k) (left_at (best_place rate streams pdos k) d) (d - 1) j

  pub cap_undated : deadline_of streams k ≡ None → cap_of rate streams pdos k ≡ 0
  unfolding cap_of
  cap_undated e = ap (λ (o : Option ℕ). cap_in o) e

  left_by : (d : ℕ) → k < length streams → 1 ≤ d → left_at (best_place rate streams pdos k) d < d
  left_by d inside least = go (greatest_response (best_place rate streams pdos k)) refl
    where
      go : (o : Option ℕ) → greatest_response (best_place rate streams pdos k) ≡ o → option_map_or (λ response. d - response) o 0 < d
      go None e = omega (arith, least)
      go (Some r) e = omega (arith, least, some_response (best_place rate streams pdos k) inside r ((greatest_response_is (best_place rate streams pdos k) inside r).0 e))

  -- a cap is less than the deadline
  pub cap_below : (d : ℕ) → deadline_of streams k ≡ Some d → cap_of rate streams pdos k < d
  cap_below d e = go (is_judged streams pdos k) refl
    where
      least : 1 ≤ d
      least = deadline_is_some streams k d e

      go : (b : Bool) → is_judged streams pdos k ≡ b → cap_of rate streams pdos k < d
      go true j = subst (λ (n : ℕ). n < d) (sym (cap_judged d e j)) (left_by d (dated_inside streams k d e) least)
      go false j = subst (λ (n : ℕ). n < d) (sym (cap_free d e j)) (omega (arith, least))

-- ---- the best place is no worse than any

sdo_by_test : (id : ℕ) → is_sdo id ≡ true → IsSdo id
sdo_by_test id e = go (or_cases (nat_le 0x581 id && nat_le id 0x5FF) (nat_le 0x601 id && nat_le id 0x67F) e)
  where
    go : ((nat_le 0x581 id && nat_le id 0x5FF) ≡ true) ⊎ ((nat_le 0x601 id && nat_le id 0x67F) ≡ true) → IsSdo id
    go (inl server) = let p = and_parts (nat_le 0x581 id) (nat_le id 0x5FF) server in inl (leb-true 0x581 id p.0, leb-true id 0x5FF p.1)
    go (inr client) = let p = and_parts (nat_le 0x601 id) (nat_le id 0x67F) client in inr (leb-true 0x601 id p.0, leb-true id 0x67F p.1)

module _ (rate : Rate) (streams : List Stream) (pdos : ℕ) (ids : ℕ → ℕ) (assigned : IsAssignment pdos ids) (k : ℕ) where
  best_is_above : HasMoreAbove (best_place rate streams pdos k) (is_lower streams pdos ids k)
  best_is_above = go (cases_lt k pdos)
    where
      go : (k < pdos) ⊎ (pdos ≤ k) → HasMoreAbove (best_place rate streams pdos k) (is_lower streams pdos ids k)
      go (inl pdo) =
          subst (λ (bound : ℕ). HasMoreAbove (trial bound rate streams pdos (λ _. false) k) (is_lower streams pdos ids k)) (sym (cond-true (nat_lt k pdos) least_id (id_at streams k) (lt-ltb k pdos pdo)))
          (set_within_ids rate streams pdos least_id (λ _. false) ids k pdo (permitted_low pdos (ids k) (assigned.permitted k pdo)) (λ j low other none. absurd (true≢false (sym none))))
      go (inr fixed) =
          subst (λ (bound : ℕ). HasMoreAbove (trial bound rate streams pdos (λ _. false) k) (is_lower streams pdos ids k)) (sym (cond-false (nat_lt k pdos) least_id (id_at streams k) (le-ltb k pdos fixed)))
          (set_within_ids_at rate streams pdos (λ _. false) ids k fixed (λ j low none. absurd (true≢false (sym none))))

  pub best_passes : k < length streams → Passes (place_under rate streams pdos ids k) → Passes (best_place rate streams pdos k)
  best_passes inside passes = passes_under_fewer (best_place rate streams pdos k) (is_lower streams pdos ids k) inside best_is_above passes

-- ---- deadlines that are lowered

below_in : (bound : ℕ) (o : Option Stream) → option_map_or (λ (s : Stream). nat_lt s.id bound) o false ≡ option_map_or (λ (e : Entry). nat_lt e.id bound) (option_map entry_of o) false
below_in bound None = refl
below_in bound (Some s) = refl

below_lowered : (bound amount : ℕ) (o : Option Stream) → option_map_or (λ (s : Stream). nat_lt s.id bound) o false ≡ option_map_or (λ (e : Entry). nat_lt e.id bound) (option_map (λ s. lower amount (entry_of s)) o) false
below_lowered bound amount None = refl
below_lowered bound amount (Some s) = refl

module _ (amount : ℕ → ℕ) (streams lowered : List Stream) (is : AreLoweredBy amount streams lowered) where
  -- each deadline was above its amount
  pub above_amount : (k d : ℕ) → deadline_of streams k ≡ Some d → amount k < d
  above_amount k d e =
      let least = deadline_is_some lowered k (d - amount k) (lowered_deadline amount streams lowered is k ∙ ap (λ (o : Option ℕ). option_map (λ d. d - amount k) o) e) in
      omega (arith, least)

  module _ (rate : Rate) (pdos : ℕ) where
    trial_same : (bound : ℕ) → is_in_trial bound lowered pdos (λ _. false) ≡ is_in_trial bound streams pdos (λ _. false)
    trial_same bound = λ i k. at k i
      where
        tests : (k : ℕ) → option_map_or (λ (s : Stream). nat_lt s.id bound) (slice_get lowered k) false ≡ option_map_or (λ (s : Stream). nat_lt s.id bound) (slice_get streams k) false
        tests k = below_in bound (slice_get lowered k) ∙ ap (λ (o : Option Entry). option_map_or (λ (e : Entry). nat_lt e.id bound) o false) (entry_at amount streams lowered is k) ∙ sym (below_lowered bound (amount k) (slice_get streams k))

        at : (k : ℕ) → is_in_trial bound lowered pdos (λ _. false) k ≡ is_in_trial bound streams pdos (λ _. false) k
        at k = ap (λ (b : Bool). if nat_lt k pdos then false else b) (tests k)

    best_same : (k : ℕ) → greatest_response (best_place rate lowered pdos k) ≡ greatest_response (best_place rate streams pdos k)
    best_same k =
        let bounds : bound_of lowered pdos k ≡ bound_of streams pdos k = ap (λ (id : ℕ). if nat_lt k pdos then least_id else id) (same_id amount streams lowered is k) in
        same_greatest lowered streams (askings_lowered amount streams lowered is) (is_in_trial (bound_of lowered pdos k) lowered pdos (λ _. false)) k rate (ahead_of lowered rate)
        ∙ ap (λ (above : ℕ → Bool). greatest_response (place_at streams above k rate (ahead_of lowered rate))) (trial_same (bound_of lowered pdos k) ∙ ap (λ (bound : ℕ). is_in_trial bound streams pdos (λ _. false)) bounds)
        ∙ ap (λ (ahead : ℕ). greatest_response (place_at streams (is_in_trial (bound_of streams pdos k) streams pdos (λ _. false)) k rate ahead)) (ahead_same lowered streams (askings_lowered amount streams lowered is) (alike amount streams lowered is) rate)

    -- what passes at the best place was lowered by no more than the cap
    pub best_within_cap : (k d : ℕ) → deadline_of streams k ≡ Some d → is_judged streams pdos k ≡ true → Passes (best_place rate lowered pdos k) → amount k ≤ cap_of rate streams pdos k
    best_within_cap k d e judged passes =
        let there : k < length lowered = omega (arith, dated_inside streams k d e, lowered_length amount streams lowered is) in
        let found = on_time_by_greatest (best_place rate lowered pdos k) there passes in
        let late = found.2 (d - amount k) (lowered_deadline amount streams lowered is k ∙ ap (λ (o : Option ℕ). option_map (λ d. d - amount k) o) e) in
        let greatest : greatest_response (best_place rate streams pdos k) ≡ Some found.0 = sym (best_same k) ∙ (greatest_response_is (best_place rate lowered pdos k) there found.0).1 found.1 in
        let left : left_at (best_place rate streams pdos k) d ≡ d - found.0 = ap (λ (o : Option ℕ). option_map_or (λ response. d - response) o 0) greatest in
        omega (arith, late, some_response (best_place rate lowered pdos k) there found.0 found.1, left, cap_judged rate streams pdos k d e judged)

    module _ (ids : ℕ → ℕ) (passing : IsPassing rate lowered pdos ids) where
      judged_passes : (k d : ℕ) → deadline_of streams k ≡ Some d → is_judged streams pdos k ≡ true → Passes (place_under rate lowered pdos ids k)
      judged_passes k d e judged = go (cases_lt k pdos)
        where
          go : (k < pdos) ⊎ (pdos ≤ k) → Passes (place_under rate lowered pdos ids k)
          go (inl pdo) = passing.1.each k pdo
          go (inr fixed) = passing.1.frames k (tested_after amount streams lowered is rate pdos k (record {
            fixed = fixed;
            inside = dated_inside streams k d e;
            sdo = sdo_by_test (id_at streams k) (subst (λ (b : Bool). (b || is_sdo (id_at streams k)) ≡ true) (le-ltb k pdos fixed) judged);
            deadline = (d, e);
          }))

      -- where some assignment passes, no deadline was lowered by more than the cap
      pub within_cap : (k d : ℕ) → deadline_of streams k ≡ Some d → amount k ≤ cap_of rate streams pdos k
      within_cap k d e = go (is_judged streams pdos k) refl
        where
          go : (b : Bool) → is_judged streams pdos k ≡ b → amount k ≤ cap_of rate streams pdos k
          go true judged = best_within_cap k d e judged (best_passes rate lowered pdos ids passing.0 k (omega (arith, dated_inside streams k d e, lowered_length amount streams lowered is)) (judged_passes k d e judged))
          go false free = omega (arith, above_amount k d e, cap_free rate streams pdos k d e free)

-- ---- what verdicts leave

module _ (p : StreamPlace) (inside : p.index < length p.streams) (deadline : ℕ) where
  left_is : (r : ℕ) → HasGreatest p r → left_at p deadline ≡ deadline - r
  left_is r has = ap (λ (o : Option ℕ). option_map_or (λ response. deadline - response) o 0) ((greatest_response_is p inside r).1 has)

  pub left_by_pass : (r : ℕ) → PassesBy p r → left_at p deadline ≡ deadline - r
  left_by_pass r by = left_is r (record {
    time = by.time;
    busy = by.busy;
    within = by.within;
    each = λ q queued. let answer = by.on_time q queued in (answer.0, answer.1, answer.3);
    reached = by.reached;
  })

  pub left_by_late : (q r : ℕ) → deadline_of p.streams p.index ≡ Some deadline → IsFirstLate p q r → left_at p deadline ≡ 0
  left_by_late q r dated late =
      let has = has_greatest p inside late.time late.busy late.within in
      let time : has.time ≡ late.time = same_least (busy_at p) 1 has.time late.time has.busy late.busy in
      let answer = has.each q (subst (λ (t : ℕ). IsQueuedWithin p t q) (sym time) late.queued) in
      let same : r ≡ answer.0 = same_response p q r answer.0 late.answers answer.1 in
      omega (arith, left_is _ has, past (deadline_of p.streams p.index) dated late.late, same, answer.2)
    where
      past : (o : Option ℕ) → o ≡ Some deadline → IsSomeAnd o (λ d. d < r) → deadline < r
      past o e h = subst (λ (o : Option ℕ). IsSomeAnd o (λ d. d < r)) e h

  pub left_by_long : IsLong p → left_at p deadline ≡ 0
  left_by_long long = ap (λ (o : Option ℕ). option_map_or (λ response. deadline - response) o 0) ((none_is_long p inside).1 long)
