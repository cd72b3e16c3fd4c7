-- The SDO frame of an identifier, and SYNC: a set has one of each at most.
use Rattle.std.proofs.Common.{◌≡◌, ◌↔◌, ℕ, ◌<◌, ◌≤◌, Bool, true, false, not, IsTrue, List, [], length, get_or, slice_get, Option, Some, None, IfSome, IfNone, refl, sym, subst, ◌∙◌, arith}
use Rattle.std.specs.Option.{option_and_then, is_some}
use Rattle.std.proofs.lemmas.Bool.{both_ways}
use Rattle.std.proofs.lemmas.Option.{slice_get_read}
use Rattle.cop_frame.specs.declared.rates.Rate.{Rate}
use Rattle.cop_rta.specs.declared.streams.Stream.{Stream}
use Rattle.cop_rta.specs.Streams.{AreDistinct, place_of_id}
use Rattle.cop_rta.specs.Test.{StreamPlace, sync_id, is_flagged, flagged_place, horizon, IsBusyTime}
use Rattle.cop_rta.specs.Verdict.{IsLong}
use Rattle.cop_rta.proofs.IdentifierLemmas.{place_has_id, no_place, one_place}
use Rattle.cop_cert.specs.Assignments.{id_at, IsSdo, IsTested}
use Rattle.cop_rta.specs.Ranges.{second_range}
use Rattle.cop_cert.specs.declared.refusals.Evidence.{Evidence}
use Rattle.cop_cert.specs.declared.refusals.Member.{Member}
use Rattle.cop_cert.specs.Causes.{sync_trial, kept, IsSync, HasSynchronous, IsSyncLong, IsSyncRefusal, IsSdoRefusal}
use Rattle.cop_cert.specs.Evidence.{IsBusyList, is_member, IsEvidence, AreFailing}
use Rattle.cop_cert.specs.Sets.{is_in_trial, trial}
use Rattle.cop_cert.proofs.CheckLemmas.{place_is}

-- an identifier that no stream has
pub no_frame : (streams : List Stream) (pdos id : ℕ) → place_of_id streams id ≡ None → (f : ℕ) → IsTested streams pdos f → id_at streams f ≡ id → ⊥
no_frame streams pdos id none f tested its = no_place streams id none f tested.inside its

-- the frame that has an identifier is the one that stands at its place
pub same_frame : (streams : List Stream) (pdos id k : ℕ) → AreDistinct streams → place_of_id streams id ≡ Some k → k < length streams → (f : ℕ) → IsTested streams pdos f → id_at streams f ≡ id → f ≡ k
same_frame streams pdos id k distinct at inside f tested its = one_place streams distinct f k tested.inside inside (its ∙ sym (place_has_id streams id k at))

pub one_frame : (streams : List Stream) (pdos id k : ℕ) → AreDistinct streams → place_of_id streams id ≡ Some k → k < length streams → (f : ℕ) → IsTested streams pdos f → id_at streams f ≡ id → IsTested streams pdos k
one_frame streams pdos id k distinct at inside f tested its =
    subst (IsTested streams pdos) (same_frame streams pdos id k distinct at inside f tested its) tested

module _ (streams : List Stream) (k : ℕ) (s : Stream) (inside : k < length streams) (is : s ≡ get_or streams k s) where
  here : slice_get streams k ≡ Some s
  here = slice_get_read streams (length streams) k s refl inside is

  pub id_here : id_at streams k ≡ s.id
  id_here = rw here refl

  deadline_here : option_and_then (λ (t : Stream). t.deadline) (slice_get streams k) ≡ s.deadline
  deadline_here = rw here refl

  pub tested_here : (pdos d : ℕ) → pdos ≤ k → IsSdo s.id → s.deadline ≡ Some d → IsTested streams pdos k
  tested_here pdos d fixed sdo dated = record { fixed = fixed; inside = inside; sdo = rw id_here sdo; deadline = (d, deadline_here ∙ dated) }

  pub sdo_here : (pdos : ℕ) → IsTested streams pdos k → IsSdo s.id
  sdo_here pdos tested = rw id_here at tested.sdo

  pub dated_here : (pdos : ℕ) → IsTested streams pdos k → s.deadline ≡ None → ⊥
  dated_here pdos tested none = let e : ◌≡◌ {A = Option ℕ} None (Some tested.deadline.0) = sym none ∙ sym deadline_here ∙ tested.deadline.1 in cc

pub none_is : (o : Option ℕ) (b : Bool) → is_some o ≡ not b → IsTrue b ↔ o ≡ None
none_is None true e = (λ t. refl, λ n. refl)
none_is None false e = cc
none_is (Some x) true e = cc
none_is (Some x) false e = (λ t. absurd (both_ways false refl t), λ n. let no : ◌≡◌ {A = Option ℕ} (Some x) None = n in cc)

-- SYNC stands at one place
pub one_sync : (streams : List Stream) (pdos a b : ℕ) → IsSync streams pdos a → IsSync streams pdos b → a ≡ b
one_sync streams pdos a b x y = let e : ◌≡◌ {A = Option ℕ} (Some a) (Some b) = sym x.there ∙ y.there in cc

module _ (rate : Rate) (streams : List Stream) (pdos sync : ℕ) (flags : List Bool) (some : HasSynchronous streams pdos) (its : IsSync streams pdos sync)
    (same : (k : ℕ) → is_flagged flags k ≡ is_in_trial sync_id streams pdos (λ _. false) k) where
  its_place : flagged_place streams flags sync rate ≡ sync_trial rate streams pdos sync
  its_place = place_is rate streams flags (is_in_trial sync_id streams pdos (λ _. false)) sync same

  -- what is said of SYNC's busy time tells whether it is long
  pub long_iff : (time : Option ℕ) (b : Bool) → IfSome time (IsBusyTime (flagged_place streams flags sync rate)) → IfSome time (λ t. t ≤ horizon)
      → IfNone time ((t : ℕ) → IsBusyTime (flagged_place streams flags sync rate) t → horizon < t) → (IsTrue b ↔ time ≡ None) → IsTrue b ↔ IsSyncLong rate streams pdos
  long_iff None b found within none tells = (
    λ t. record { some = some; sync = sync; is_sync = its; long = subst IsLong its_place none },
    λ long. tells.1 refl,
  )
  long_iff (Some t) b found within none tells = (
    λ s. let no : ◌≡◌ {A = Option ℕ} (Some t) None = tells.0 s in cc,
    λ long.
        let place : IsLong (sync_trial rate streams pdos sync) = subst (λ (k : ℕ). IsLong (sync_trial rate streams pdos k)) (one_sync streams pdos long.sync sync long.is_sync its) long.long in
        absurd (let late = place t (subst (λ (p : StreamPlace). IsBusyTime p t) its_place found) in omega (arith, late, within)),
  )

  pub no_refusal : (busy : List ℕ) → (IsBusyList (flagged_place streams flags sync rate) busy → ⊥) → IsSyncRefusal rate streams pdos busy → ⊥
  no_refusal busy none refusal =
      let place : IsBusyList (sync_trial rate streams pdos sync) busy =
      subst (λ (k : ℕ). IsBusyList (sync_trial rate streams pdos k) busy) (one_sync streams pdos refusal.sync sync refusal.is_sync its) refusal.shown.list in
      none (subst (λ (p : StreamPlace). IsBusyList p busy) (sym its_place) place)

pub sdo_refusal_iff : (rate : Rate) (streams : List Stream) (pdos : ℕ) (up : List Member) (id : ℕ) (evidence : Evidence) (frame : ℕ) (b : Bool) → (IsSyncLong rate streams pdos → ⊥)
    → AreFailing second_range.least rate streams pdos up → (second_range.count < pdos → up ≡ [])
    → IsTested streams pdos frame × (id_at streams frame ≡ id) × ((g : ℕ) → IsTested streams pdos g → id_at streams g ≡ id → g ≡ frame)
    → (IsTrue b ↔ IsEvidence (trial (id_at streams frame) rate streams pdos (kept pdos (is_member up)) frame) evidence) → IsTrue b ↔ IsSdoRefusal rate streams pdos up id evidence
sdo_refusal_iff rate streams pdos up id evidence frame b not_long failing none found shown = (
  λ t. record {
    not_long = not_long;
    failing = failing;
    none = none;
    frame = frame;
    tested = found.0;
    its = found.1;
    fails = subst (λ (n : ℕ). IsEvidence (trial n rate streams pdos (kept pdos (is_member up)) frame) evidence) found.1 (shown.0 t);
  },
  λ r.
      let at : IsEvidence (trial id rate streams pdos (kept pdos (is_member up)) frame) evidence =
      subst (λ (f : ℕ). IsEvidence (trial id rate streams pdos (kept pdos (is_member up)) f) evidence) (found.2 r.frame r.tested r.its) r.fails in
      shown.1 (subst (λ (n : ℕ). IsEvidence (trial n rate streams pdos (kept pdos (is_member up)) frame) evidence) (sym found.1) at),
)
