-- Where a refusal holds, no assignment passes.
use Rattle.std.proofs.Common.{ℕ, ◌≤◌, List, length, sym, arith, le_of_eq}
use Rattle.cop_frame.specs.declared.rates.Rate.{Rate}
use Rattle.cop_rta.specs.declared.streams.Stream.{Stream}
use Rattle.cop_rta.specs.Ranges.{first_range}
use Rattle.cop_rta.specs.Test.{StreamPlace, busy_at}
use Rattle.cop_rta.specs.TestLemmas.{busy_at-mono}
use Rattle.cop_rta.specs.Verdict.{IsLong}
use Rattle.cop_cert.specs.declared.refusals.Cause.{Cause}
use Rattle.cop_cert.specs.declared.refusals.Cause.TheVariants.{Places, Sync, Sdo}
use Rattle.cop_cert.specs.declared.refusals.Member.{Member}
use Rattle.cop_cert.specs.declared.refusals.Refusal.{Refusal}
use Rattle.cop_cert.specs.Assignments.{NoAssignmentPasses}
use Rattle.cop_cert.specs.Causes.{IsSyncLong, IsPlacesRefusal, IsSyncRefusal, IsCause, IsRefusal}
use Rattle.cop_cert.specs.Evidence.{is_member, ShowsLong}
use Rattle.cop_cert.specs.Sets.{IsRefusalSet}
use Rattle.cop_cert.proofs.EvidenceLemmas.{climb_below}
use Rattle.cop_cert.proofs.LongSync.{long_sync_fails}
use Rattle.cop_cert.proofs.RangeLemmas.{set_rules_out_ranges, sdo_rules_out}
use Rattle.cop_cert.proofs.SetLemmas.{some_member, failing_are_stuck, member_inside}

-- a list that is shown to be long leaves no busy time within the horizon
pub shown_is_long : (p : StreamPlace) (busy : List ℕ) → ShowsLong p busy → IsLong p
shown_is_long p busy shown t time =
    let below = climb_below (busy_at p) (busy_at-mono p) t (le_of_eq (sym time.solves)) busy (omega (arith, shown.list.begins, time.within)) shown.list.climbs in
    omega (arith, below, shown.high)

pub places_are_set : (rate : Rate) (streams : List Stream) (pdos : ℕ) (members : List Member) → IsPlacesRefusal rate streams pdos members → IsRefusalSet first_range.least rate streams pdos (is_member members)
places_are_set rate streams pdos members h =
    let one = some_member members h.some in
    record { some = (one.0, member_inside pdos members h.failing.inside one.0 one.1, one.1); each = failing_are_stuck first_range.least rate streams pdos members h.failing }

pub sync_refusal_is_long : (rate : Rate) (streams : List Stream) (pdos : ℕ) (busy : List ℕ) → IsSyncRefusal rate streams pdos busy → IsSyncLong rate streams pdos
sync_refusal_is_long rate streams pdos busy h = record { some = h.some; sync = h.sync; is_sync = h.is_sync; long = shown_is_long _ busy h.shown }

cause_rules_out : (rate : Rate) (streams : List Stream) (pdos : ℕ) (c : Cause) → pdos ≤ length streams → IsCause rate streams pdos c → NoAssignmentPasses rate streams pdos
cause_rules_out rate streams pdos (Places members) count h = set_rules_out_ranges rate streams pdos (is_member members) count (places_are_set rate streams pdos members h)
cause_rules_out rate streams pdos (Sync busy) count h = λ ids passing.
    long_sync_fails rate streams pdos count (sync_refusal_is_long rate streams pdos busy h) ids passing.0 h.some.0 h.some.1 (passing.1.each h.some.0 h.some.1)
cause_rules_out rate streams pdos (Sdo up id evidence) count h = sdo_rules_out rate streams pdos up id evidence count h

pub refusal_rules_out : (streams : List Stream) (pdos : ℕ) (r : Refusal) → pdos ≤ length streams → IsRefusal streams pdos r → NoAssignmentPasses r.rate streams pdos
refusal_rules_out streams pdos r count h = cause_rules_out r.rate streams pdos r.cause count h
