-- Streams under other identifiers, one more.
use Rattle.std.proofs.Common.{◌≡◌, ◌≢◌, ◌==◌, ℕ, zero, suc, ◌+◌, ◌*◌, ◌<◌, ◌≤◌, ◌⊎◌, inl, inr, true, false, nat_lt, List, [], ◌∷◌, ◌++◌, length, map, take, get_or, slice_get, Option, Some, None, refl, sym, ap, subst, ◌∙◌, arith, ⊎_elim, length-append}
use Rattle.std.proofs.lemmas.Bool.{cases_lt, lt-ltb, le-ltb, ltb-true, ne_eqb, cond-true, cond-false}
use Rattle.std.proofs.lemmas.Option.{slice_get_cases}
use Rattle.std.proofs.lemmas.List.{map-append, get_or-map, take_more, take_all}
use Rattle.std.proofs.lemmas.List.Folds.{list_any_none}
use Rattle.cop_rta.specs.declared.streams.Stream.{Stream}
use Rattle.cop_rta.specs.declared.ranges.IdRange.{IdRange}
use Rattle.cop_rta.specs.Ranges.{first_range, second_range, IsIn, IsOutside, IsPermitted}
use Rattle.cop_rta.specs.Greatest.{AreSynced}
use Rattle.cop_rta.specs.Streams.{AreDistinct, has_id, place_of_id}
use Rattle.cop_frame.specs.declared.rates.Rate.{Rate}
use Rattle.cop_rta.specs.Test.{of_stream, Passes, has_lower_id, place_by_id, ahead_of, sync_id}
use Rattle.cop_rta.proofs.IdentifierLemmas.{of_stream_at, two_apart}
use Rattle.cop_rta.specs.Witnesses.{under, HasMoreAbove}
use Rattle.cop_rta.proofs.MoreAbove.{passes_under_fewer}
use Rattle.cop_cert.specs.Assignments.{least_id, IsAssignment, AreOutside, IsSdo, IsTested, id_under, is_lower, place_under, AllTestedPass}
use Rattle.cop_cert.proofs.AboveLemmas.{more_above}
use Rattle.cop_plan.specs.Values.{Timing, timing_of, HaveIds, HaveDeadlines, ArePdosHigh, AreOnTime}
use Rattle.cop_plan.specs.Orders.{HasPdos}
use Rattle.cop_plan.proofs.FillingLemmas.{no_bit}
use Rattle.cop_plan.proofs.SameAsking.{Asking, place_at, same_number}
use Rattle.cop_plan.proofs.SamePlace.{askings, same_length, same_deadline, passes_same}
use Rattle.cop_plan.proofs.SameSync.{AreAlike, ahead_same, one_sync}

-- the first k streams under their identifiers
pub record AreRenamed (streams : List Stream) (pdos : ℕ) (ids : ℕ → ℕ) (k : ℕ) (renamed : List Stream) : Type 0 where
  pub timings : map timing_of renamed ≡ map timing_of (take k streams)
  pub count : length renamed ≡ k
  pub each : (j : ℕ) → j < k → of_stream (λ s. s.id) renamed j ≡ id_under streams pdos ids j

-- no PDO has the identifier of another stream
abbrev pub AreApart : List Stream → ℕ → (ℕ → ℕ) → Type 0
AreApart streams pdos ids = (p k : ℕ) → p < pdos → k < length streams → p ≢ k → ids p ≢ id_under streams pdos ids k

pub of_stream_left : (streams more : List Stream) (k : ℕ) → k < length streams → of_stream (λ s. s.id) (streams ++ more) k ≡ of_stream (λ s. s.id) streams k
of_stream_left [] more k h = absurd (omega arith)
of_stream_left (s ∷ ss) more zero h = refl
of_stream_left (s ∷ ss) more (suc k) h = of_stream_left ss more k (omega arith)

pub of_stream_last : (streams : List Stream) (s : Stream) → of_stream (λ s. s.id) (streams ++ s ∷ []) (length streams) ≡ s.id
of_stream_last [] s = refl
of_stream_last (x ∷ xs) s = of_stream_last xs s

module _ (streams : List Stream) (pdos : ℕ) (ids : ℕ → ℕ) where
  pub id_of_pdo : (k : ℕ) → k < pdos → id_under streams pdos ids k ≡ ids k
  id_of_pdo k h = cond-true (nat_lt k pdos) (ids k) (of_stream (λ s. s.id) streams k) (lt-ltb k pdos h)

  pub id_of_fixed : (k : ℕ) → pdos ≤ k → id_under streams pdos ids k ≡ of_stream (λ s. s.id) streams k
  id_of_fixed k h = cond-false (nat_lt k pdos) (ids k) (of_stream (λ s. s.id) streams k) (le-ltb k pdos h)

  -- two streams of the set have two identifiers
  pub apart : AreApart streams pdos ids → AreDistinct streams → (j k : ℕ) → j < k → k < length streams → id_under streams pdos ids j ≢ id_under streams pdos ids k
  apart separate distinct j k lt h same = go (cases_lt j pdos)
    where
      go : (j < pdos) ⊎ (pdos ≤ j) → ⊥
      go (inl pdo) = separate j k pdo h (λ e. omega arith) (sym (id_of_pdo j pdo) ∙ same)
      go (inr fixed) = two_apart streams distinct j k lt h (sym (id_of_fixed j fixed) ∙ same ∙ id_of_fixed k (omega arith))

  pub none_renamed : AreRenamed streams pdos ids 0 []
  none_renamed = record { timings = refl; count = refl; each = λ j h. absurd (omega arith) }

  -- the next one has an identifier that none has yet
  pub next_is_new : (k id : ℕ) (renamed : List Stream) → AreApart streams pdos ids → AreDistinct streams → k < length streams → AreRenamed streams pdos ids k renamed
      → id ≡ id_under streams pdos ids k → has_id renamed id ≡ false
  next_is_new k id renamed separate distinct h r its =
      list_any_none (λ s. s.id == id) renamed
      (λ j d low. ne_eqb (get_or renamed j d).id id
      (λ same.
      let below : j < k = omega (arith, low, r.count) in
      apart separate distinct j k below h (sym (r.each j below) ∙ of_stream_at renamed j d low ∙ same ∙ its)))

  pub one_more : (k : ℕ) (renamed : List Stream) (s d : Stream) → k < length streams → AreRenamed streams pdos ids k renamed
      → timing_of s ≡ timing_of (get_or streams k d) → s.id ≡ id_under streams pdos ids k
      → AreRenamed streams pdos ids (k + 1) (renamed ++ s ∷ [])
  one_more k renamed s d h r timing its = record {
    timings =
        map-append timing_of renamed (s ∷ [])
        ∙ ap (λ (ts : List Timing). ts ++ timing_of s ∷ []) r.timings
        ∙ ap (λ (t : Timing). map timing_of (take k streams) ++ t ∷ []) timing
        ∙ sym (map-append timing_of (take k streams) (get_or streams k d ∷ []))
        ∙ ap (λ (ss : List Stream). map timing_of ss) (sym (take_more streams k d h));
    count = simp length-append (omega (arith, r.count));
    each = λ j low. each j low (cases_lt j k);
  }
    where
      each : (j : ℕ) → j < k + 1 → (j < k) ⊎ (k ≤ j) → of_stream (λ s. s.id) (renamed ++ s ∷ []) j ≡ id_under streams pdos ids j
      each j low (inl below) = of_stream_left renamed (s ∷ []) j (omega (arith, below, r.count)) ∙ r.each j below
      each j low (inr last) =
          let here : j ≡ length renamed = omega (arith, low, last, r.count) in
          let there : k ≡ j = omega (arith, low, last) in
          ap (λ (n : ℕ). of_stream (λ s. s.id) (renamed ++ s ∷ []) n) here ∙ of_stream_last renamed s ∙ its ∙ ap (λ (n : ℕ). id_under streams pdos ids n) there

  pub all_renamed : (k : ℕ) (renamed : List Stream) → length streams ≤ k → AreRenamed streams pdos ids k renamed → HaveIds streams pdos ids renamed
  all_renamed k renamed h r = record {
    timings = r.timings ∙ ap (λ (ss : List Stream). map timing_of ss) (take_all k streams h);
    each = λ j low. r.each j (omega (arith, low, h));
  }

-- identifiers that PDOs may have are apart from those of fixed frames outside both ranges
pub apart_from_fixed : (streams : List Stream) (pdos : ℕ) (ids : ℕ → ℕ) → IsAssignment pdos ids → AreOutside first_range streams pdos → AreOutside second_range streams pdos
    → AreApart streams pdos ids
apart_from_fixed streams pdos ids assigned outside_first outside_second = λ p k h low other same. go p k h low other same (cases_lt k pdos)
  where
    side : (range : IdRange) (id : ℕ) → IsIn range id → IsOutside range id → ⊥
    side range id h (inl l) = absurd (omega (arith, l, h.0))
    side range id h (inr l) = absurd (omega (arith, l, h.1))

    clash : (k id : ℕ) → pdos ≤ k → k < length streams → id ≡ of_stream (λ s. s.id) streams k → IsPermitted pdos id → ⊥
    clash k id fixed low e (inl first) = side first_range id first (rw e (outside_first k fixed low))
    clash k id fixed low e (inr second) = side second_range id second.1 (rw e (outside_second k fixed low))

    go : (p k : ℕ) → p < pdos → k < length streams → p ≢ k → ids p ≡ id_under streams pdos ids k → (k < pdos) ⊎ (pdos ≤ k) → ⊥
    go p k h low other same (inl pdo) = other (assigned.distinct p k h pdo (same ∙ id_of_pdo streams pdos ids k pdo))
    go p k h low other same (inr fixed) = clash k (ids p) fixed low (same ∙ id_of_fixed streams pdos ids k fixed) (assigned.permitted p h)

-- and so two streams have two identifiers
pub distinct_renamed : (streams renamed : List Stream) (pdos : ℕ) (ids : ℕ → ℕ) → IsAssignment pdos ids → HasPdos streams pdos → HaveIds streams pdos ids renamed → AreDistinct renamed
distinct_renamed streams renamed pdos ids assigned has have j k d lt h same =
    let size : length renamed ≡ length streams = same_length renamed streams have.timings in
    let inside : k < length streams = omega (arith, h, size) in
    let first : j < length streams = omega (arith, lt, inside) in
    apart streams pdos ids (apart_from_fixed streams pdos ids assigned has.outside_first has.outside_second) has.distinct j k lt inside
    (sym (have.each j first) ∙ of_stream_at renamed j d (omega (arith, lt, h)) ∙ same ∙ sym (of_stream_at renamed k d h) ∙ have.each k inside)

-- and none of them is below the first range
pub none_lower : (pdos : ℕ) (ids : ℕ → ℕ) → IsAssignment pdos ids → (p : ℕ) → p < pdos → least_id ≤ ids p
none_lower pdos ids assigned p h = go (assigned.permitted p h)
  where
    go : IsPermitted pdos (ids p) → least_id ≤ ids p
    go (inl first) = first.0
    go (inr second) = omega (arith, second.1.0)

-- ---- the test under the identifiers

module _ (rate : Rate) (streams renamed : List Stream) (pdos : ℕ) (ids : ℕ → ℕ) (have : HaveIds streams pdos ids renamed) where
  pub same_count : length renamed ≡ length streams
  same_count = same_length renamed streams have.timings

  id_renamed : (k : ℕ) → k < length streams → of_stream (λ s. s.id) renamed k ≡ id_under streams pdos ids k
  id_renamed k h = have.each k h

  above_is_lower : (index k : ℕ) (o : Option Stream) → slice_get renamed k ≡ o → has_lower_id renamed index k ≡ true → of_stream (λ s. s.id) renamed k < of_stream (λ s. s.id) renamed index
  above_is_lower index k None e h = absurd (none_is_above e h)
    where
      none_is_above : slice_get renamed k ≡ None → has_lower_id renamed index k ≡ true → ⊥
      none_is_above e h = let no : has_lower_id renamed index k ≡ false = rw e refl in no_bit (has_lower_id renamed index k) h no
  above_is_lower index k (Some s) e h =
      let number : of_stream (λ s. s.id) renamed k ≡ s.id = rw e refl in
      let test : has_lower_id renamed index k ≡ nat_lt s.id (of_stream (λ s. s.id) renamed index) = rw e refl in
      omega (arith, number, ltb-true s.id (of_stream (λ s. s.id) renamed index) (sym test ∙ h))

  -- both before and after, PDOs stand below SYNC, and what is ahead of latencies is the same
  pub sync_alike : ArePdosHigh streams pdos → ((p : ℕ) → p < pdos → least_id ≤ ids p) → AreAlike streams renamed
  sync_alike provisional low k inside = ⊎_elim
      (λ (pdo : k < pdos). inr (omega (arith, provisional k pdo), omega (arith, low k pdo, id_of_pdo streams pdos ids k pdo, id_renamed k inside)))
      (λ (fixed : pdos ≤ k). inl (sym (id_renamed k inside ∙ id_of_fixed streams pdos ids k fixed)))
      (cases_lt k pdos)

  -- who is above by the identifiers that the streams have is above under the assignment, and the other way
  pub lower_before : (p : ℕ) → p < length streams → HasMoreAbove (place_by_id renamed p rate) (is_lower streams pdos ids p)
  lower_before p h = more_above (place_by_id renamed p rate) (is_lower streams pdos ids p) above
    where
      above : (k : ℕ) → k < length renamed → k ≢ p → has_lower_id renamed p k ≡ true → is_lower streams pdos ids p k ≡ true
      above k low other e =
          lt-ltb (id_under streams pdos ids k) (id_under streams pdos ids p)
          (omega (arith, above_is_lower p k (slice_get renamed k) refl e, id_renamed k (omega (arith, low, same_count)), id_renamed p h))

  pub lower_after : (p : ℕ) → p < length streams → HasMoreAbove (under (place_by_id renamed p rate) (is_lower streams pdos ids p)) (has_lower_id renamed p)
  lower_after p h = more_above (under (place_by_id renamed p rate) (is_lower streams pdos ids p)) (has_lower_id renamed p) above
    where
      at_some : (k : ℕ) (s : Stream) → slice_get renamed k ≡ Some s → of_stream (λ s. s.id) renamed k < of_stream (λ s. s.id) renamed p → has_lower_id renamed p k ≡ true
      at_some k s there lt =
          let number : of_stream (λ s. s.id) renamed k ≡ s.id = rw there refl in
          let test : has_lower_id renamed p k ≡ nat_lt s.id (of_stream (λ s. s.id) renamed p) = rw there refl in
          test ∙ lt-ltb s.id (of_stream (λ s. s.id) renamed p) (omega (arith, lt, number))

      above : (k : ℕ) → k < length renamed → k ≢ p → is_lower streams pdos ids p k ≡ true → has_lower_id renamed p k ≡ true
      above k low other e =
          let lt : of_stream (λ s. s.id) renamed k < of_stream (λ s. s.id) renamed p = omega (arith, ltb-true (id_under streams pdos ids k) (id_under streams pdos ids p) e, id_renamed k (omega (arith, low, same_count)), id_renamed p h) in
          ⊎_elim (λ s. at_some k s.0 s.2 lt) (λ past. absurd (omega (arith, low, past.0))) (slice_get_cases renamed k).1

  -- a PDO that passes under an assignment passes where the streams have its identifiers
  pub passes_renamed : ArePdosHigh streams pdos → ((p : ℕ) → p < pdos → least_id ≤ ids p) → (p : ℕ) → p < length streams → Passes (place_under rate streams pdos ids p) → Passes (place_by_id renamed p rate)
  passes_renamed provisional low p h passes =
      passes_under_fewer (place_by_id renamed p rate) (is_lower streams pdos ids p) (omega (arith, h, same_count)) (lower_before p h)
      (subst (λ (ahead : ℕ). Passes (place_at renamed (is_lower streams pdos ids p) p rate ahead))
      (ahead_same streams renamed (askings streams renamed (sym have.timings)) (sync_alike provisional low) rate)
      (passes_same streams renamed (sym have.timings) (is_lower streams pdos ids p) p rate (ahead_of streams rate) passes))

  -- and the other way
  passes_before : ArePdosHigh streams pdos → ((p : ℕ) → p < pdos → least_id ≤ ids p) → (p : ℕ) → p < length streams → Passes (place_by_id renamed p rate) → Passes (place_under rate streams pdos ids p)
  passes_before provisional low p h passes =
      passes_same renamed streams have.timings (is_lower streams pdos ids p) p rate (ahead_of streams rate)
      (subst (λ (ahead : ℕ). Passes (place_at renamed (is_lower streams pdos ids p) p rate ahead))
      (sym (ahead_same streams renamed (askings streams renamed (sym have.timings)) (sync_alike provisional low) rate))
      (passes_under_fewer (under (place_by_id renamed p rate) (is_lower streams pdos ids p)) (has_lower_id renamed p) (omega (arith, h, same_count)) (lower_after p h) passes))

  same_fixed : (f : ℕ) → pdos ≤ f → f < length streams → of_stream (λ s. s.id) renamed f ≡ of_stream (λ s. s.id) streams f
  same_fixed f fixed inside = id_renamed f inside ∙ id_of_fixed streams pdos ids f fixed

  -- fixed frames keep identifier and deadline
  pub still_tested : (f : ℕ) → IsTested streams pdos f → IsTested renamed pdos f
  still_tested f t = record {
    fixed = t.fixed;
    inside = omega (arith, t.inside, same_count);
    sdo = subst (λ (id : ℕ). IsSdo id) (sym (same_fixed f t.fixed t.inside)) t.sdo;
    deadline = (t.deadline.0, same_deadline renamed streams have.timings f ∙ t.deadline.1);
  }

  tested_before : (f : ℕ) → IsTested renamed pdos f → IsTested streams pdos f
  tested_before f t =
      let inside : f < length streams = omega (arith, t.inside, same_count) in
      record {
        fixed = t.fixed;
        inside = inside;
        sdo = subst (λ (id : ℕ). IsSdo id) (same_fixed f t.fixed inside) t.sdo;
        deadline = (t.deadline.0, sym (same_deadline renamed streams have.timings f) ∙ t.deadline.1);
      }

  pub outside_renamed : (range : IdRange) → AreOutside range streams pdos → AreOutside range renamed pdos
  outside_renamed range outside k fixed h =
      let inside : k < length streams = omega (arith, h, same_count) in
      subst (λ (id : ℕ). IsOutside range id) (sym (same_fixed k fixed inside)) (outside k fixed inside)

  pub on_time_renamed : pdos ≤ length streams → HaveDeadlines streams pdos → ArePdosHigh streams pdos → ((p : ℕ) → p < pdos → least_id ≤ ids p) → AllTestedPass rate streams pdos ids → AreOnTime rate renamed pdos
  on_time_renamed few deadlines provisional low all = record {
    deadlines = λ p h. let d = deadlines p h in (d.0, same_deadline renamed streams have.timings p ∙ d.1);
    pass = λ p h. passes_renamed provisional low p (omega (arith, h, few)) (all.each p h);
    frames = λ f t. let before = tested_before f t in passes_renamed provisional low f before.inside (all.frames f before);
  }

  -- what is on time under the identifiers that the streams have passes under the assignment
  pub passing_before_renaming : pdos ≤ length streams → ArePdosHigh streams pdos → ((p : ℕ) → p < pdos → least_id ≤ ids p) → AreOnTime rate renamed pdos → AllTestedPass rate streams pdos ids
  passing_before_renaming few provisional low fine = record {
    each = λ p h. passes_before provisional low p (omega (arith, h, few)) (fine.pass p h);
    frames = λ f t. passes_before provisional low f t.inside (fine.frames f (still_tested f t));
  }

  -- synchronous streams keep pace with SYNC, which stands where it stood
  pub synced_renamed : ArePdosHigh streams pdos → ((p : ℕ) → p < pdos → least_id ≤ ids p) → AreSynced streams → AreSynced renamed
  synced_renamed provisional low synced = record { each = λ k d h every. each k d h every }
    where
      timing : (k : ℕ) (d : Stream) → k < length renamed → timing_of (get_or renamed k d) ≡ timing_of (get_or streams k d)
      timing k d h =
          sym (get_or-map timing_of renamed k d (timing_of d) h)
          ∙ ap (λ (ts : List Timing). get_or ts k (timing_of d)) have.timings
          ∙ get_or-map timing_of streams k d (timing_of d) (omega (arith, h, same_count))

      each : (k : ℕ) (d : Stream) → k < length renamed → 1 ≤ (get_or renamed k d).every
          → (i : ℕ) × (place_of_id renamed sync_id ≡ Some i) × ((get_or renamed k d).period ≡ (get_or renamed k d).every * of_stream (λ t. t.period) renamed i)
      each k d h every =
          let same : (get_or renamed k d).every ≡ (get_or streams k d).every = ap (λ (t : Timing). t.every) (timing k d h) in
          let period : (get_or renamed k d).period ≡ (get_or streams k d).period = ap (λ (t : Timing). t.period) (timing k d h) in
          let found = synced.each k d (omega (arith, h, same_count)) (omega (arith, every, same)) in
          let sync : of_stream (λ t. t.period) streams found.0 ≡ of_stream (λ t. t.period) renamed found.0 = same_number streams renamed (askings streams renamed (sym have.timings)) (λ (t : Asking). t.period) found.0 in (
            found.0,
            sym (one_sync streams renamed (askings streams renamed (sym have.timings)) (sync_alike provisional low)) ∙ found.1,
            period ∙ found.2 ∙ ap (λ (n : ℕ). n * of_stream (λ t. t.period) streams found.0) (sym same) ∙ ap (λ (n : ℕ). (get_or renamed k d).every * n) sync,
          )
