-- Identifiers that are assigned, and those that a plan has.
use Rattle.std.proofs.Common.{◌≡◌, ◌∙◌, ℕ, zero, suc, le_refl, ◌<◌, ◌≤◌, ◌⊎◌, inl, inr, ◌==◌, true, false, true≢false, List, length, slice_get, Option, Some, None, sym, ap, subst, arith, zero-le, le_of_eq, ⊎_elim}
use Rattle.std.specs.Prelude.{nat_lt}
use Rattle.std.specs.Option.{option_map_or, option_and_then}
use Rattle.std.proofs.lemmas.Bool.{cases_lt, eqb-true, lt-ltb, or_cases, or_right}
use Rattle.std.proofs.lemmas.Bool.Decides.{nat_tests}
use Rattle.cop_frame.specs.declared.rates.Rate.{Rate}
use Rattle.cop_rta.specs.declared.streams.Stream.{Stream}
use Rattle.cop_rta.specs.Ranges.{IsPermitted}
use Rattle.cop_rta.specs.Streams.{AreDistinct, place_of_id}
use Rattle.cop_rta.specs.Test.{Passes, has_lower_id, of_stream, jitter_of, sync_id, sync_place, ahead_of}
use Rattle.cop_rta.specs.Covers.{Covers}
use Rattle.cop_rta.specs.Jittered.{PassesWith}
use Rattle.cop_rta.specs.Greatest.{HasGreatest}
use Rattle.cop_rta.proofs.JitteredLemmas.{passes_with}
use Rattle.cop_rta.proofs.IdentifierLemmas.{place_has_id}
use Rattle.cop_rta.proofs.SyncLemmas.{covered_greatest, jitters_no_shorter}
use Rattle.cop_rta.proofs.SyncLemmas as syncs
use Rattle.cop_cert.specs.Assignments.{IsPassing, NoAssignmentPasses, IsTested, IsSdo, id_at, id_under, is_lower, place_under}
use Rattle.cop_cert.proofs.AboveLemmas.{id_of_pdo, id_of_fixed}
use Rattle.cop_cert.proofs.RangeLemmas.{permitted_low}
use Rattle.cop_plan.specs.Values.{ArePdosHigh}
use Rattle.cop_room.specs.Harder.{AreHarder, ArePlannedAmong}
use Rattle.cop_room.specs.Keeping.{AllStillPass, CanBePlanned}
use Rattle.cop_room.proofs.HarderLemmas.{jitter_harder}
use Rattle.cop_room.proofs.EasierPlaces.{stream_at, place_inside, places_apart, asks_no_more, easier_passes}
use Rattle.cop_room.proofs.ByIdentifier.{id_there, are_among, same_places, ahead_less, among_passes, synced_among}

lower_than : (o : Option Stream) (n : ℕ) → option_map_or (λ s. nat_lt s.id n) o false ≡ true → option_map_or (λ s. s.id) o 0 < n
lower_than None n e = absurd (true≢false (sym e))
lower_than (Some s) n e = grind (arith, nat_tests)

-- a stream that passes under identifiers, its own above SYNC's, has a SYNC above it that has its greatest response
module _ (streams : List Stream) (rate : Rate) (pdos : ℕ) (ids : ℕ → ℕ) (high : ArePdosHigh streams pdos) (index : ℕ) (inside : index < length streams) (own : 128 < id_under streams pdos ids index)
    (i : ℕ) (at : place_of_id streams sync_id ≡ Some i) where
  sync_has : of_stream (λ s. s.id) streams i ≡ 128
  sync_has = place_has_id streams sync_id i at

  low_above : (k : ℕ) → of_stream (λ s. s.id) streams k ≤ 128 → is_lower streams pdos ids index k ≡ true
  low_above k low = ⊎_elim
      (λ (pdo : k < pdos). absurd (omega (arith, high k pdo, low)))
      (λ (fixed : pdos ≤ k). lt-ltb (id_under streams pdos ids k) (id_under streams pdos ids index) (omega (arith, id_of_fixed streams pdos ids k fixed, low, own)))
      (cases_lt k pdos)

  covers : Covers (sync_place streams rate i) (is_lower streams pdos ids index) index
  covers k there h = or_right (k == index) (is_lower streams pdos ids index k) (go (or_cases (k == i) (has_lower_id streams i k) h))
    where
      go : ((k == i) ≡ true) ⊎ (has_lower_id streams i k ≡ true) → is_lower streams pdos ids index k ≡ true
      go (inl same) = low_above k (le_of_eq (ap (of_stream (λ s. s.id) streams) (eqb-true k i same) ∙ sync_has))
      go (inr low) = let l = lower_than (slice_get streams k) (of_stream (λ s. s.id) streams i) low in low_above k (omega (arith, l, sync_has))

  pub responds_under : (ahead : ℕ) → PassesWith (jitter_of ahead) (place_under rate streams pdos ids index) → (r : ℕ) × HasGreatest (sync_place streams rate i) r
  responds_under ahead passes =
      covered_greatest (jitter_of ahead) (sync_place streams rate i) (is_lower streams pdos ids index) index (ahead_of streams rate) passes.time (jitters_no_shorter 0 ahead zero-le)
      (syncs.place_inside streams sync_id i at) inside covers passes.busy.within passes.within (le_of_eq (sym passes.busy.solves))

module _ (rate : Rate) (streams more : List Stream) (pdos more_pdos : ℕ) (place : ℕ → ℕ) (planned : ArePlannedAmong streams more pdos more_pdos place)
    (synced : (i : ℕ) → place_of_id streams sync_id ≡ Some i → place_of_id more sync_id ≡ Some (place i)) where
  id_same : (k : ℕ) → k < length streams → of_stream (λ s. s.id) more (place k) ≡ of_stream (λ s. s.id) streams k
  id_same k lt = id_there streams more place planned.among synced rate k lt

  -- what is tested is tested there
  tested_too : (f : ℕ) → IsTested streams pdos f → IsTested more more_pdos (place f)
  tested_too f tested =
      let two = stream_at streams more place planned.among f tested.inside in
      let its : two.0.deadline ≡ Some tested.deadline.0 = sym (ap (option_and_then (λ (s : Stream). s.deadline)) two.2) ∙ tested.deadline.1 in
      let e = two.4.deadline tested.deadline.0 its in
      record {
        fixed = planned.rest f tested.fixed tested.inside;
        inside = place_inside streams more place planned.among f tested.inside;
        sdo = subst IsSdo (sym (id_same f tested.inside)) tested.sdo;
        deadline = (e.0, ap (option_and_then (λ (s : Stream). s.deadline)) two.3 ∙ e.1);
      }

  pub still_pass : AllStillPass rate more_pdos more → AllStillPass rate pdos streams
  still_pass all = record {
    each = λ p first. among_passes streams more place planned.among synced rate p (omega (arith, first, planned.count)) (all.each (place p) (planned.first p first));
    frames = λ f tested. among_passes streams more place planned.among synced rate f tested.inside (all.frames (place f) (tested_too f tested));
  }

  -- no place is before the stream's own
  no_sooner : (k : ℕ) → k < length streams → k ≤ place k
  no_sooner zero lt = zero-le
  no_sooner (suc k) lt =
      let before = no_sooner k (omega (arith, lt)) in
      let next = planned.among.rises k (suc k) (omega arith) lt in
      omega (arith, before, next)

  as_few : (n : ℕ) → n ≤ pdos → n ≤ more_pdos
  as_few zero le = zero-le
  as_few (suc n) le = omega (arith, no_sooner n (omega (arith, le, planned.count)), planned.first n (omega (arith, le)))

  module _ (high : ArePdosHigh more more_pdos) (ids : ℕ → ℕ) where
    under_same : (k : ℕ) → k < length streams → id_under more more_pdos ids (place k) ≡ id_under streams pdos (λ p. ids (place p)) k
    under_same k lt = ⊎_elim
        (λ (pdo : k < pdos). id_of_pdo more more_pdos ids (place k) (planned.first k pdo) ∙ sym (id_of_pdo streams pdos (λ p. ids (place p)) k pdo))
        (λ (fixed : pdos ≤ k). id_of_fixed more more_pdos ids (place k) (planned.rest k fixed lt) ∙ id_same k lt ∙ sym (id_of_fixed streams pdos (λ p. ids (place p)) k fixed))
        (cases_lt k pdos)

    lower_same : (index : ℕ) → index < length streams → (k : ℕ) → k < length streams → is_lower more more_pdos ids (place index) (place k) ≡ is_lower streams pdos (λ p. ids (place p)) index k
    lower_same index inside k lt =
        ap (λ (n : ℕ). nat_lt n (id_under more more_pdos ids (place index))) (under_same k lt) ∙ ap (λ (n : ℕ). nat_lt (id_under streams pdos (λ p. ids (place p)) k) n) (under_same index inside)

    under_passes : (index : ℕ) → index < length streams → 128 < id_under more more_pdos ids (place index) → Passes (place_under rate more more_pdos ids (place index))
        → Passes (place_under rate streams pdos (λ p. ids (place p)) index)
    under_passes index inside own passes =
        let le : ahead_of streams rate ≤ ahead_of more rate = ahead_less streams more place planned.among synced rate
        (λ i at. responds_under more rate more_pdos ids high (place index) (place_inside streams more place planned.among index inside) own i at (ahead_of more rate)
        ((passes_with (place_under rate more more_pdos ids (place index))).0 passes)) in
        easier_passes _ _
        (asks_no_more streams more place planned.among (is_lower streams pdos (λ p. ids (place p)) index) (is_lower more more_pdos ids (place index)) index rate (ahead_of streams rate) (ahead_of more rate) inside (lower_same index inside)
        (λ k s t at hard counts. jitter_harder (ahead_of streams rate) (ahead_of more rate) s t hard le))
        passes

    sdo_high : (id : ℕ) → IsSdo id → 128 < id
    sdo_high id (inl a) = omega (arith, a.0)
    sdo_high id (inr b) = omega (arith, b.0)

    still_permitted : (id : ℕ) → IsPermitted more_pdos id → IsPermitted pdos id
    still_permitted id (inl a) = inl a
    still_permitted id (inr b) = inr (omega (arith, b.0, as_few pdos (le_refl pdos)), b.1)

    pub assigned_passes : IsPassing rate more more_pdos ids → IsPassing rate streams pdos (λ p. ids (place p))
    assigned_passes all = (
      record {
        permitted = λ p first. still_permitted (ids (place p)) (all.0.permitted (place p) (planned.first p first));
        distinct = λ p r one two same. places_apart streams more place planned.among p r (omega (arith, one, planned.count)) (omega (arith, two, planned.count))
            (all.0.distinct (place p) (place r) (planned.first p one) (planned.first r two) same);
      },
      record {
        each = λ p first. under_passes p (omega (arith, first, planned.count))
            (omega (arith, id_of_pdo more more_pdos ids (place p) (planned.first p first), permitted_low more_pdos (ids (place p)) (all.0.permitted (place p) (planned.first p first))))
            (all.1.each (place p) (planned.first p first));
        frames = λ f tested. under_passes f tested.inside
            (let there = tested_too f tested in omega (arith, id_of_fixed more more_pdos ids (place f) there.fixed, sdo_high (id_at more (place f)) there.sdo))
            (all.1.frames (place f) (tested_too f tested));
      },
    )

-- ---- the same streams in turn

module _ (streams harder : List Stream) (h : AreHarder streams harder) (pdos : ℕ) (count : pdos ≤ length streams) where
  in_turn : ArePlannedAmong streams harder pdos pdos (λ k. k)
  in_turn = record { among = are_among streams harder h; count = count; first = λ p first. first; rest = λ f fixed inside. fixed }

  synced_in_turn : (i : ℕ) → place_of_id streams sync_id ≡ Some i → place_of_id harder sync_id ≡ Some i
  synced_in_turn i at = sym (same_places streams harder sync_id h) ∙ at

  high_in_turn : Rate → ArePdosHigh streams pdos → ArePdosHigh harder pdos
  high_in_turn rate high p first = omega (arith, high p first, id_same rate streams harder pdos pdos (λ k. k) in_turn synced_in_turn p (omega (arith, first, count)))

pub some_assigned : (rate : Rate) (streams harder : List Stream) (pdos : ℕ) (ids : ℕ → ℕ) → AreHarder streams harder → pdos ≤ length streams → ArePdosHigh streams pdos
    → IsPassing rate harder pdos ids → IsPassing rate streams pdos ids
some_assigned rate streams harder pdos ids h count high all =
    assigned_passes rate streams harder pdos pdos (λ k. k) (in_turn streams harder h pdos count) (synced_in_turn streams harder h pdos count) (high_in_turn streams harder h pdos count rate high) ids all

pub none_assigned : (rate : Rate) (streams harder : List Stream) (pdos : ℕ) → AreHarder streams harder → pdos ≤ length streams → ArePdosHigh streams pdos
    → NoAssignmentPasses rate streams pdos → NoAssignmentPasses rate harder pdos
none_assigned rate streams harder pdos h count high none ids all = none ids (some_assigned rate streams harder pdos ids h count high all)

pub can_be_planned : (rate : Rate) (streams harder : List Stream) (pdos : ℕ) → AreHarder streams harder → pdos ≤ length streams → CanBePlanned rate pdos harder → CanBePlanned rate pdos streams
can_be_planned rate streams harder pdos h count can =
    let high : ArePdosHigh streams pdos = λ p first. omega (arith, can.high p first, id_same rate streams harder pdos pdos (λ k. k) (in_turn streams harder h pdos count) (synced_in_turn streams harder h pdos count) p (omega (arith, first, count))) in
    record { high = high; some = λ none. can.some (none_assigned rate streams harder pdos h count high none) }

pub plan_passes : (streams harder : List Stream) (rate : Rate) (pdos : ℕ) → AreHarder streams harder → pdos ≤ length streams → AllStillPass rate pdos harder → AllStillPass rate pdos streams
plan_passes streams harder rate pdos h count all =
    still_pass rate streams harder pdos pdos (λ k. k) (in_turn streams harder h pdos count) (synced_in_turn streams harder h pdos count) all

-- ---- some of the streams

pub fewer_planned : (streams more : List Stream) (rate : Rate) (pdos more_pdos : ℕ) (place : ℕ → ℕ) → AreDistinct more → ArePlannedAmong streams more pdos more_pdos place
    → AllStillPass rate more_pdos more → AllStillPass rate pdos streams
fewer_planned streams more rate pdos more_pdos place distinct planned all =
    still_pass rate streams more pdos more_pdos place planned (synced_among streams more place planned.among distinct) all

pub fewer_assigned : (rate : Rate) (streams more : List Stream) (pdos more_pdos : ℕ) (place ids : ℕ → ℕ) → AreDistinct more → ArePlannedAmong streams more pdos more_pdos place
    → ArePdosHigh more more_pdos → IsPassing rate more more_pdos ids → IsPassing rate streams pdos (λ p. ids (place p))
fewer_assigned rate streams more pdos more_pdos place ids distinct planned high all =
    assigned_passes rate streams more pdos more_pdos place planned (synced_among streams more place planned.among distinct) high ids all
