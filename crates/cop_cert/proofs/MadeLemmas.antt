-- What is made holds.
use Rattle.std.specs.declared.alloc.AllocError.{AllocError}
use Rattle.std.proofs.Common.{Result, Ok, Err, IfOk, false, ◌∙◌, ◌≡◌, ℕ, ◌<◌, ◌≤◌, Bool, List, [], ◌∷◌, length, get_or, All, AllPairs, refl, sym, subst, arith, ap, le_of_eq, IsTrue, ◌↔◌}
use Rattle.std.proofs.lemmas.List.{length-map}
use Rattle.cop_frame.specs.declared.rates.Rate.{Rate}
use Rattle.cop_rta.specs.declared.streams.Stream.{Stream}
use Rattle.cop_rta.specs.Test.{StreamPlace, place_among, flagged_place, is_flagged, sync_id, busy_at, queueing_at, horizon}
use Rattle.cop_rta.specs.Verdict.{IsLong}
use Rattle.cop_rta.specs.Ranges.{first_range, second_range}
use Rattle.cop_rta.proofs.LeastLemmas.{same_least}
use Rattle.cop_rta.specs.Paces.{most_ahead}
use Rattle.cop_rta.proofs.SyncLemmas.{place_inside, ahead_small}
use Rattle.cop_cert.specs.declared.refusals.Cause.{Cause}
use Rattle.cop_cert.specs.declared.refusals.Cause.TheVariants.{Places, Sync, Sdo}
use Rattle.cop_cert.specs.declared.refusals.Evidence.{Evidence}
use Rattle.cop_cert.specs.declared.refusals.Evidence.TheVariants.{Long, Late}
use Rattle.cop_cert.specs.declared.refusals.Member.{Member}
use Rattle.cop_cert.specs.declared.refusals.Refusal.{Refusal}
use Rattle.cop_cert.specs.Sets.{is_in_trial, trial}
use Rattle.cop_cert.specs.Assignments.{IsSdo, id_at, IsTested}
use Rattle.cop_cert.specs.Causes.{sync_trial, kept, IsSync, IsSyncLong, IsPlacesRefusal, IsSyncRefusal, IsSdoRefusal, IsCause, IsRefusal}
use Rattle.cop_cert.specs.Evidence.{IsEvidence, AreFailing, is_listed, is_member, pdos_of, last_of}
use Rattle.cop_cert.specs.Chains.{AllFail, FailTogether, IsChain, IsWholeChain, EndsAbove, IsWholeEvidence, AreMade, AreMadeOf, IsMadeCause, IsMade, HasAtMost}
use Rattle.cop_cert.specs.Writable.{IsWritableList, IsWritableEvidence, AreWritableMembers, IsWritableCause, IsWritableRefusal}
use Rattle.cop_cert.proofs.RisingLemmas.{all_of, rising_members}
use Rattle.cop_cert.proofs.GapLemmas.{whole_is_short}
use Rattle.cop_cert.proofs.MakeLemmas.{run_climbs, is_busy_time, few_instances, busy_above}
use Rattle.cop_cert.proofs.CheckLemmas.{place_is}
use Rattle.cop_cert.proofs.FrameLemmas.{one_sync}

-- tests that answer alike are one
pub fails_under : (streams : List Stream) (rate : Rate) (members : List ℕ) (here there : ℕ → Bool) → ((k : ℕ) → here k ≡ there k)
    → AllFail streams rate members here → AllFail streams rate members there
fails_under streams rate members here there same fails =
    let e : here ≡ there = λ i k. same k i in
    subst (AllFail streams rate members) e fails

pub fail_iff : (bound : ℕ) (streams : List Stream) (pdos : ℕ) (rate : Rate) (members : List ℕ) (above : ℕ → Bool) (b : Bool)
    → ((k : ℕ) → above k ≡ is_in_trial bound streams pdos (is_listed members) k)
    → AllPairs (λ m n. m < n) members × All (λ m. m < pdos) members
    → (IsTrue b ↔ AllFail streams rate members above) → IsTrue b ↔ FailTogether bound streams pdos rate members
fail_iff bound streams pdos rate members above b same rise fail = (
  λ t. record { rise = rise.0; inside = rise.1; fail = fails_under streams rate members above (is_in_trial bound streams pdos (is_listed members)) same (fail.0 t) },
  λ h. fail.1 (fails_under streams rate members (is_in_trial bound streams pdos (is_listed members)) above (λ k. sym (same k)) h.fail),
)

pub made_under : (streams : List Stream) (rate : Rate) (members : List ℕ) (found : List Member) (bound pdos : ℕ) (above : ℕ → Bool)
    → ((k : ℕ) → above k ≡ is_in_trial bound streams pdos (is_listed members) k)
    → AreMade streams above rate members found → AreMadeOf bound streams pdos rate members found
made_under streams rate members found bound pdos above same made =
    let e : above ≡ is_in_trial bound streams pdos (is_listed members) = λ i k. same k i in
    subst (λ (test : ℕ → Bool). AreMade streams test rate members found) e made

-- what the code has made, where memory was there
pub made_by_flags : (streams : List Stream) (rate : Rate) (members : List ℕ) (bound pdos : ℕ) (above : ℕ → Bool) (r : Result (List Member) AllocError)
    → ((k : ℕ) → above k ≡ is_in_trial bound streams pdos (is_listed members) k)
    → IfOk r (AreMade streams above rate members) → IfOk r (AreMadeOf bound streams pdos rate members)
made_by_flags streams rate members bound pdos above (Ok found) same made = made_under streams rate members found bound pdos above same made
made_by_flags streams rate members bound pdos above (Err e) same made = tt

pub evidence_by_flags : (streams : List Stream) (rate : Rate) (flags : List Bool) (above : ℕ → Bool) (index : ℕ) (r : Result Evidence AllocError) → ((k : ℕ) → is_flagged flags k ≡ above k)
    → IfOk r (IsWholeEvidence (flagged_place streams flags index rate)) → IfOk r (IsWholeEvidence (place_among streams above index rate))
evidence_by_flags streams rate flags above index r same made =
    subst (λ (p : StreamPlace). IfOk r (IsWholeEvidence p)) (place_is rate streams flags above index same) made

-- members that are made tell of which PDOs themselves
pub made_of_themselves : (bound : ℕ) (streams : List Stream) (pdos : ℕ) (rate : Rate) (members : List ℕ) (found : List Member)
    → AreMadeOf bound streams pdos rate members found → AreMadeOf bound streams pdos rate (pdos_of found) found
made_of_themselves bound streams pdos rate members found made =
    subst (λ (ps : List ℕ). AreMadeOf bound streams pdos rate ps found) (sym made.pdos_are) made

-- whole chains are evidence
pub whole_shows : (p : StreamPlace) (e : Evidence) → IsWholeEvidence p e → IsEvidence p e
whole_shows p (Long busy) h = record {
  list = record { climbs = run_climbs (busy_at p) horizon busy h.chain.follows; begins = h.chain.begins };
  high = h.above;
}
whole_shows p (Late q busy queue) h =
    let time = is_busy_time p busy h.busy_time.chain h.busy_time.solves in
    let same : h.queue_of.first.time ≡ last_of busy = same_least (busy_at p) 1 h.queue_of.first.time (last_of busy) h.queue_of.first.busy time in
    record {
      list = record { climbs = run_climbs (busy_at p) horizon busy h.busy_time.chain.follows; begins = h.busy_time.chain.begins };
      reached = rw (← same) h.queue_of.first.queued;
      waits = record { climbs = run_climbs (queueing_at p q) horizon queue h.queue_of.waits.chain.follows; begins = le_of_eq h.queue_of.waits.chain.begins };
      late = h.queue_of.first.late;
    }

-- members that are made are shown to fail
pub made_are_failing : (bound : ℕ) (streams : List Stream) (pdos : ℕ) (rate : Rate) (members : List ℕ) (found : List Member)
    → AllPairs (λ m n. m < n) members → All (λ m. m < pdos) members → AreMadeOf bound streams pdos rate members found → AreFailing bound rate streams pdos found
made_are_failing bound streams pdos rate members found rise inside made =
    let are : pdos_of found ≡ members = made.pdos_are in
    record {
      rise = rw are rise;
      inside = rw are inside;
      evidence = λ k d below.
          rw are (whole_shows _ (get_or found k d).evidence (made.whole k d below));
    }

-- and none of their lists is long
pub made_are_short : (bound : ℕ) (streams : List Stream) (pdos : ℕ) (rate : Rate) (members : List ℕ) (found : List Member) → pdos ≤ length streams
    → All (λ m. m < pdos) members → AreMadeOf bound streams pdos rate members found → All (λ m. HasAtMost 181820 m.evidence) found
made_are_short bound streams pdos rate members found count inside made =
    let each = all_of pdos found (rw made.pdos_are inside) in
    λ k d below.
    whole_is_short _ (get_or found k d).evidence (omega (arith, count, each k d below)) (made.whole k d below)

chain_writable : (f : ℕ → ℕ) (from : ℕ) (numbers : List ℕ) → IsChain f from horizon numbers → length numbers ≤ 181820 → IsWritableList numbers
chain_writable f from [] c short = absurd c.follows
chain_writable f from (a ∷ rest) c short = record { some = omega arith; count = omega (arith, short); fit = c.fit }

whole_is_writable : (p : StreamPlace) (e : Evidence) → p.index < length p.streams → p.ahead ≤ most_ahead → IsWholeEvidence p e → IsWritableEvidence e
whole_is_writable p (Long busy) inside small h = chain_writable (busy_at p) 1 busy h.chain (whole_is_short p (Long busy) inside h)
whole_is_writable p (Late q busy queue) inside small h =
    let short = whole_is_short p (Late q busy queue) inside h in
    let few = few_instances p inside q _ h.queue_of.first small in (
      omega (arith, few),
      chain_writable (busy_at p) 1 busy h.busy_time.chain short.0,
      chain_writable (queueing_at p q) _ queue h.queue_of.waits.chain short.1,
    )

members_are_writable : (bound : ℕ) (streams : List Stream) (pdos : ℕ) (rate : Rate) (members : List Member) → pdos ≤ length streams → pdos ≤ 512
    → AreFailing bound rate streams pdos members → AreMadeOf bound streams pdos rate (pdos_of members) members → AreWritableMembers members
members_are_writable bound streams pdos rate members count few holds made =
    let inside = all_of pdos members holds.inside in
    record {
      rise = rising_members members holds.rise;
      inside = λ k d below. omega (arith, few, inside k d below);
      evidence = λ k d below.
          whole_is_writable _ (get_or members k d).evidence (omega (arith, count, inside k d below)) (ahead_small streams rate) (made.whole k d below);
    }

cause_is_writable : (streams : List Stream) (pdos : ℕ) (rate : Rate) (cause : Cause) → pdos ≤ length streams → pdos ≤ 512
    → IsCause rate streams pdos cause → IsMadeCause rate streams pdos cause → IsWritableCause cause
cause_is_writable streams pdos rate (Places members) count few holds made = (holds.some, members_are_writable _ streams pdos rate members count few holds.failing made)
cause_is_writable streams pdos rate (Sync busy) count few holds made =
    whole_is_writable (sync_trial rate streams pdos made.0) (Long busy) (place_inside streams sync_id made.0 made.1.there) (ahead_small streams rate) made.2
cause_is_writable streams pdos rate (Sdo up id evidence) count few holds made = (
  members_are_writable _ streams pdos rate up count few holds.failing made.0,
  subst IsSdo made.3 made.2.sdo,
  whole_is_writable _ evidence made.2.inside (ahead_small streams rate) made.4,
)

-- a refusal with the whole chains is one that a file holds
pub made_is_writable : (streams : List Stream) (pdos : ℕ) (r : Refusal) → pdos ≤ length streams → pdos ≤ 512
    → IsRefusal streams pdos r → IsMade streams pdos r → IsWritableRefusal r
made_is_writable streams pdos r count few holds made = cause_is_writable streams pdos r.rate r.cause count few holds made

pub places_hold : (streams : List Stream) (pdos : ℕ) (rate : Rate) (members : List ℕ) (found : List Member) → (IsSyncLong rate streams pdos → ⊥) → 0 < length members
    → FailTogether first_range.least streams pdos rate members → AreMadeOf first_range.least streams pdos rate members found → IsPlacesRefusal rate streams pdos found
places_hold streams pdos rate members found not_long some fail made =
    let count : length (pdos_of found) ≡ length found = length-map found (λ m. m.pdo) in
    record { not_long = not_long; some = omega (arith, count, ap length made.pdos_are, some); failing = made_are_failing first_range.least streams pdos rate members found fail.rise fail.inside made }

-- SYNC's whole chain, by the flags of its place
pub sync_made : (streams : List Stream) (pdos : ℕ) (rate : Rate) (flags : List Bool) (sync : ℕ) (busy : List ℕ) → IsSyncLong rate streams pdos → IsSync streams pdos sync
    → ((k : ℕ) → is_flagged flags k ≡ is_in_trial sync_id streams pdos (λ _. false) k)
    → IsWholeChain (busy_at (flagged_place streams flags sync rate)) 1 horizon busy → EndsAbove (busy_at (sync_trial rate streams pdos sync)) 1 horizon busy
sync_made streams pdos rate flags sync busy long its same whole =
    busy_above (sync_trial rate streams pdos sync) busy
    (subst (λ (p : StreamPlace). IsWholeChain (busy_at p) 1 horizon busy) (place_is rate streams flags (is_in_trial sync_id streams pdos (λ _. false)) sync same) whole)
    (subst (λ (k : ℕ). IsLong (sync_trial rate streams pdos k)) (one_sync streams pdos long.sync sync long.is_sync its) long.long)

pub sync_holds : (streams : List Stream) (pdos : ℕ) (rate : Rate) (sync : ℕ) (busy : List ℕ) → IsSyncLong rate streams pdos → IsSync streams pdos sync
    → EndsAbove (busy_at (sync_trial rate streams pdos sync)) 1 horizon busy → IsSyncRefusal rate streams pdos busy
sync_holds streams pdos rate sync busy long its made = record { some = long.some; sync = sync; is_sync = its; shown = whole_shows (sync_trial rate streams pdos sync) (Long busy) made }

pub sync_short : (streams : List Stream) (pdos : ℕ) (rate : Rate) (sync : ℕ) (busy : List ℕ) → IsSync streams pdos sync → EndsAbove (busy_at (sync_trial rate streams pdos sync)) 1 horizon busy → length busy ≤ 181820
sync_short streams pdos rate sync busy its made = whole_is_short (sync_trial rate streams pdos sync) (Long busy) (place_inside streams sync_id sync its.there) made

module _ (streams : List Stream) (pdos : ℕ) (rate : Rate) (members : List ℕ) (found : List Member) (id frame : ℕ) (evidence : Evidence) (tested : IsTested streams pdos frame) (its : id_at streams frame ≡ id)
    (made : AreMadeOf second_range.least streams pdos rate members found)
    (whole : IsWholeEvidence (trial (id_at streams frame) rate streams pdos (kept pdos (is_listed members)) frame) evidence) where
  frame_whole : IsWholeEvidence (trial id rate streams pdos (kept pdos (is_member found)) frame) evidence
  frame_whole =
      subst (λ (ps : List ℕ). IsWholeEvidence (trial id rate streams pdos (kept pdos (is_listed ps)) frame) evidence) (sym made.pdos_are)
      (subst (λ (n : ℕ). IsWholeEvidence (trial n rate streams pdos (kept pdos (is_listed members)) frame) evidence) its whole)

  pub sdo_made : IsMadeCause rate streams pdos (Sdo found id evidence)
  sdo_made = (made_of_themselves second_range.least streams pdos rate members found made, frame, tested, its, frame_whole)

  pub sdo_holds : (IsSyncLong rate streams pdos → ⊥) → FailTogether second_range.least streams pdos rate members → (second_range.count < pdos → members ≡ []) → IsSdoRefusal rate streams pdos found id evidence
  sdo_holds not_long fail none = record {
    not_long = not_long;
    failing = made_are_failing second_range.least streams pdos rate members found fail.rise fail.inside made;
    none = λ many. none_of found (made.pdos_are ∙ none many);
    frame = frame;
    tested = tested;
    its = its;
    fails = whole_shows (trial id rate streams pdos (kept pdos (is_member found)) frame) evidence frame_whole;
  }
    where
      none_of : (ms : List Member) → pdos_of ms ≡ [] → ms ≡ []
      none_of [] e = refl
      none_of (m ∷ ms) e = absurd (omega (arith, ap length e))

  pub sdo_short : pdos ≤ length streams → All (λ m. m < pdos) members → All (λ m. HasAtMost 181820 m.evidence) found × HasAtMost 181820 evidence
  sdo_short count inside = (
    made_are_short second_range.least streams pdos rate members found count inside made,
    whole_is_short (trial id rate streams pdos (kept pdos (is_member found)) frame) evidence tested.inside frame_whole,
  )
