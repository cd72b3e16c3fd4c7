-- What is shown of a refusal is what the response-time test says.
use Rattle.std.proofs.Common.{◌≡◌, ℕ, ◌<◌, ◌≤◌, ◌⊎◌, inl, inr, Bool, List, length, get_or, slice_get, Option, Some, None, All, arith, refl, sym, ap, ◌∙◌, le_of_eq}
use Rattle.std.proofs.lemmas.Option.{slice_get_cases}
use Rattle.cop_frame.specs.declared.rates.Rate.{Rate}
use Rattle.cop_rta.specs.declared.streams.Stream.{Stream}
use Rattle.cop_rta.specs.Paces.{most_ahead}
use Rattle.cop_rta.specs.Ranges.{first_range, second_range}
use Rattle.cop_rta.specs.Streams.{AreDistinct, place_of_id}
use Rattle.cop_rta.specs.Test.{StreamPlace, place_among, ahead_of, busy_at, horizon}
use Rattle.cop_rta.specs.TestLemmas.{busy_at-mono}
use Rattle.cop_rta.specs.Verdict.{IsLong, IsJudged}
use Rattle.cop_rta.proofs.IdentifierLemmas.{no_place, one_place, place_has_id}
use Rattle.cop_rta.proofs.SyncLemmas.{ahead_small, place_inside}
use Rattle.cop_cert.specs.declared.refusals.Cause.{Cause}
use Rattle.cop_cert.specs.declared.refusals.Cause.TheVariants.{Places, Sync, Sdo}
use Rattle.cop_cert.specs.declared.refusals.Evidence.{Evidence}
use Rattle.cop_cert.specs.declared.refusals.Evidence.TheVariants.{Long, Late}
use Rattle.cop_cert.specs.declared.refusals.Member.{Member}
use Rattle.cop_cert.specs.declared.refusals.Refusal.{Refusal}
use Rattle.cop_cert.specs.Assignments.{id_at, IsTested}
use Rattle.cop_cert.specs.Causes.{kept, sync_trial, IsCause}
use Rattle.cop_cert.specs.Chains.{AreMadeOf, EndsAbove, IsMadeCause, IsWholeEvidence}
use Rattle.cop_cert.specs.Evidence.{is_member, pdos_of, AreFailing}
use Rattle.cop_cert.specs.Sets.{is_in_trial, trial}
use Rattle.cop_cert.proofs.EvidenceLemmas.{climb_below}
use Rattle.cop_cert.proofs.MakeLemmas.{run_climbs, few_instances}
use Rattle.cop_cert.proofs.RisingLemmas.{all_of}
use Rattle.cop_plan.specs.Plans.{IsGreatestRefusal}
use Rattle.cop_figures.specs.Measures.{IsMeasured, AreMeasured, IsMeasuredCause, IsMeasuredRefusal}
use Rattle.cop_figures.specs.Reasons.{said_of, said_at, AreTestedIn, IsFrameTested, IsTestedCause, IsTestedIn}

-- a busy list that climbs past the horizon shows that no busy time is within it
busy_past : (p : StreamPlace) (numbers : List ℕ) → EndsAbove (busy_at p) 1 horizon numbers → IsLong p
busy_past p numbers h = λ t busy.
    let closed : busy_at p t ≤ t = le_of_eq (sym busy.solves) in
    let below = climb_below (busy_at p) (busy_at-mono p) t closed numbers (omega (arith, h.chain.begins, busy.within)) (run_climbs (busy_at p) horizon numbers h.chain.follows) in
    omega (arith, below, h.above)

tested : (p : StreamPlace) (s : Stream) (e : Evidence) → slice_get p.streams p.index ≡ Some s → IsWholeEvidence p e → IsJudged p (said_of p.ahead p.rate s e)
tested p s (Long busy) is h = busy_past p busy h
tested p s (Late q busy queue) is h = rw is at h.queue_of.first

measured : (p : StreamPlace) (e : Evidence) → p.index < length p.streams → p.ahead ≤ most_ahead → IsWholeEvidence p e → IsMeasured e
measured p (Long busy) inside small h = tt
measured p (Late q busy queue) inside small h = (few_instances p inside q _ h.queue_of.first small, h.queue_of.waits.within)

-- what is shown of a stream of a set is what the test says of its place
tested_at : (streams : List Stream) (above : ℕ → Bool) (index : ℕ) (rate : Rate) (e : Evidence) → index < length streams → IsWholeEvidence (place_among streams above index rate) e
    → IsJudged (place_among streams above index rate) (said_at streams rate (slice_get streams index) e)
tested_at streams above index rate e inside whole = go (slice_get_cases streams index).1
  where
    go : ((s : Stream) × (index < length streams) × (slice_get streams index ≡ Some s) × (get_or streams index s ≡ s)) ⊎ ((length streams ≤ index) × (slice_get streams index ≡ None))
        → IsJudged (place_among streams above index rate) (said_at streams rate (slice_get streams index) e)
    go (inl s) =
        let judged : IsJudged (place_among streams above index rate) (said_of (ahead_of streams rate) rate s.0 e) = tested (place_among streams above index rate) s.0 e s.2 whole in
        rw s.2 judged
    go (inr past) = absurd (omega (arith, inside, past.0))

-- the place of an identifier is that of the stream that has it
place_of_frame : (streams : List Stream) (id f : ℕ) → AreDistinct streams → f < length streams → id_at streams f ≡ id → place_of_id streams id ≡ Some f
place_of_frame streams id f distinct inside its = go (place_of_id streams id) refl
  where
    go : (o : Option ℕ) → place_of_id streams id ≡ o → place_of_id streams id ≡ Some f
    go None e = absurd (no_place streams id e f inside its)
    go (Some k) e =
        e ∙ ap (λ n. Some n) (one_place streams distinct k f (place_inside streams id k e) inside (place_has_id streams id k e ∙ sym its))

module _ (streams : List Stream) (pdos : ℕ) (count : pdos ≤ length streams) where
  inside_of : (bound : ℕ) (rate : Rate) (members : List Member) → AreFailing bound rate streams pdos members → (k : ℕ) (d : Member) → k < length members → (get_or members k d).pdo < length streams
  inside_of bound rate members failing k d below =
      let low : (get_or members k d).pdo < pdos = all_of pdos members failing.inside k d below in
      omega (arith, low, count)

  members_measured : (bound : ℕ) (rate : Rate) (members : List Member) → AreFailing bound rate streams pdos members → AreMadeOf bound streams pdos rate (pdos_of members) members → AreMeasured (length streams) members
  members_measured bound rate members failing made k d below =
      let inside : (get_or members k d).pdo < length streams = inside_of bound rate members failing k d below in
      (inside, measured (trial bound rate streams pdos (is_member members) (get_or members k d).pdo) (get_or members k d).evidence inside (ahead_small streams rate) (made.whole k d below))

  members_tested : (bound : ℕ) (rate : Rate) (members : List Member) → AreFailing bound rate streams pdos members → AreMadeOf bound streams pdos rate (pdos_of members) members → AreTestedIn bound streams pdos rate members
  members_tested bound rate members failing made k d below =
      tested_at streams (is_in_trial bound streams pdos (is_member members)) (get_or members k d).pdo rate (get_or members k d).evidence (inside_of bound rate members failing k d below) (made.whole k d below)

  cause_measured : (rate : Rate) (cause : Cause) → IsMadeCause rate streams pdos cause → IsCause rate streams pdos cause → IsMeasuredCause (length streams) cause
  cause_measured rate (Places members) made holds = members_measured first_range.least rate members holds.failing made
  cause_measured rate (Sync busy) made holds = tt
  cause_measured rate (Sdo up id e) made holds = (
    members_measured second_range.least rate up holds.failing made.0,
    measured (trial id rate streams pdos (kept pdos (is_member up)) made.1) e made.2.inside (ahead_small streams rate) made.4,
  )

  frame_tested : (rate : Rate) (up : List Member) (id : ℕ) (e : Evidence) (f : ℕ) → AreDistinct streams → IsTested streams pdos f → id_at streams f ≡ id
      → IsWholeEvidence (trial id rate streams pdos (kept pdos (is_member up)) f) e → IsFrameTested streams pdos rate up id e
  frame_tested rate up id e f distinct is its whole = record {
    frame = f;
    is = is;
    its = its;
    judged = rw (place_of_frame streams id f distinct is.inside its)
        (tested_at streams (is_in_trial id streams pdos (kept pdos (is_member up))) f rate e is.inside whole);
  }

  cause_tested : (rate : Rate) (cause : Cause) → AreDistinct streams → IsMadeCause rate streams pdos cause → IsCause rate streams pdos cause → IsTestedCause streams pdos rate cause
  cause_tested rate (Places members) distinct made holds = members_tested first_range.least rate members holds.failing made
  cause_tested rate (Sync busy) distinct made holds = (made.0, made.1, busy_past (sync_trial rate streams pdos made.0) busy made.2)
  cause_tested rate (Sdo up id e) distinct made holds = (
    members_tested second_range.least rate up holds.failing made.0,
    frame_tested rate up id e made.1 distinct made.2 made.3 made.4,
  )

  pub all_measured : (refusals : List Refusal) → All (IsGreatestRefusal streams pdos) refusals → All (IsMeasuredRefusal (length streams)) refusals
  all_measured refusals each = λ k d below.
      let g : IsGreatestRefusal streams pdos (get_or refusals k d) = each k d below in
      cause_measured (get_or refusals k d).rate (get_or refusals k d).cause g.made g.holds

  pub all_tested : (refusals : List Refusal) → AreDistinct streams → All (IsGreatestRefusal streams pdos) refusals → All (IsTestedIn streams pdos) refusals
  all_tested refusals distinct each = λ k d below.
      let g : IsGreatestRefusal streams pdos (get_or refusals k d) = each k d below in
      cause_tested (get_or refusals k d).rate (get_or refusals k d).cause distinct g.made g.holds
