-- Why no choice of identifiers passes at a rate.
use Rattle.std.specs.Prelude.{ℕ, ◌≡◌, ◌+◌, ◌-◌, ◌*◌, nat_le, if◌then◌else◌, List, length, map, slice_get, Option, All}
use Rattle.std.specs.Option.{option_and_then, option_map_or}
use Rattle.cop_frame.specs.declared.rates.Rate.{Rate}
use Rattle.cop_rta.specs.declared.streams.Stream.{Stream}
use Rattle.cop_rta.specs.declared.verdicts.Verdict.{Verdict}
use Rattle.cop_rta.specs.declared.verdicts.Verdict.TheVariants as verdicts
use Rattle.cop_rta.specs.Ranges.{first_range, second_range}
use Rattle.cop_rta.specs.Streams.{place_of_id}
use Rattle.cop_rta.specs.Test.{cost_of, jitter_of, ahead_of}
use Rattle.cop_rta.specs.Verdict.{IsLong, IsJudged}
use Rattle.cop_cert.specs.declared.refusals.Cause.{Cause}
use Rattle.cop_cert.specs.declared.refusals.Cause.TheVariants.{Places, Sync, Sdo}
use Rattle.cop_cert.specs.declared.refusals.Evidence.{Evidence}
use Rattle.cop_cert.specs.declared.refusals.Evidence.TheVariants.{Long, Late}
use Rattle.cop_cert.specs.declared.refusals.Member.{Member}
use Rattle.cop_cert.specs.declared.refusals.Refusal.{Refusal}
use Rattle.cop_cert.specs.Assignments.{id_at, IsTested}
use Rattle.cop_cert.specs.Causes.{IsSync, sync_trial, kept}
use Rattle.cop_cert.specs.Evidence.{last_of, is_member}
use Rattle.cop_cert.specs.Sets.{trial}
use Rattle.cop_net.specs.Network.{Net}
use Rattle.cop_figures.specs.declared.refused.Failing.{Failing}
use Rattle.cop_figures.specs.declared.refused.FailingFrame.{FailingFrame}
use Rattle.cop_figures.specs.declared.refused.Reason.{Reason}
use Rattle.cop_figures.specs.declared.refused.Reason.TheVariants as reasons
use Rattle.cop_figures.specs.declared.refused.RefusedRate.{RefusedRate}

-- what evidence against a stream says of it, where so much is ahead of latencies: where its queue list ends, the response of the
-- instance is read off
abbrev pub said_of : ℕ → Rate → Stream → Evidence → Verdict
said_of ahead rate s (Long busy) = verdicts.Long
said_of ahead rate s (Late q busy queue) = verdicts.Late q (jitter_of ahead s + last_of queue + cost_of rate s - q * s.period)

-- the same of the stream at a place
abbrev pub said_at : List Stream → Rate → Option Stream → Evidence → Verdict
said_at streams rate stream e = option_map_or (λ s. said_of (ahead_of streams rate) rate s e) stream verdicts.Long

-- the same of a member of a refusal
abbrev pub verdict_of : List Stream → Rate → Member → Verdict
verdict_of streams rate m = said_at streams rate (slice_get streams m.pdo) m.evidence

-- a member as it is shown
abbrev pub failing_of : List Stream → Rate → Member → Failing
failing_of streams rate m = record {
  pdo = m.pdo;
  deadline = option_and_then (λ s. s.deadline) (slice_get streams m.pdo);
  verdict = verdict_of streams rate m;
}

-- the stream of an identifier
abbrev pub frame_of : List Stream → ℕ → Option Stream
frame_of streams id = option_and_then (λ k. slice_get streams k) (place_of_id streams id)

-- an SDO frame as it is shown
abbrev pub failing_frame : List Stream → Rate → ℕ → Evidence → FailingFrame
failing_frame streams rate id e = record {
  id = id;
  deadline = option_and_then (λ s. s.deadline) (frame_of streams id);
  verdict = said_at streams rate (frame_of streams id) e;
}

-- how many PDOs are above an SDO frame: the members, or all PDOs where the second range has no room for all
abbrev pub count_above : ℕ → List Member → ℕ
count_above pdos up = if nat_le pdos second_range.count then length up else pdos

-- a cause as it is shown
abbrev pub reason_of : List Stream → ℕ → Rate → Cause → Reason
reason_of streams pdos rate (Places members) = reasons.Places (map (failing_of streams rate) members)
reason_of streams pdos rate (Sync busy) = reasons.Sync
reason_of streams pdos rate (Sdo up id e) = reasons.Sdo (failing_frame streams rate id e) (count_above pdos up) (map (failing_of streams rate) up)

-- a refusal as it is shown
abbrev pub refused_of : List Stream → ℕ → Refusal → RefusedRate
refused_of streams pdos r = record { rate = r.rate; reason = reason_of streams pdos r.rate r.cause }

-- what is shown of each member is what the response-time test says of it with the other members above it, and of all other
-- frames the fixed ones with an identifier below a bound
abbrev pub AreTestedIn : ℕ → List Stream → ℕ → Rate → List Member → Type 0
AreTestedIn bound streams pdos rate members =
    All (λ m. IsJudged (trial bound rate streams pdos (is_member members) m.pdo) (verdict_of streams rate m)) members

-- the frame with an identifier and a deadline: what is shown of it is what the test says with the PDOs above it that cannot stand below
pub record IsFrameTested (streams : List Stream) (pdos : ℕ) (rate : Rate) (up : List Member) (id : ℕ) (e : Evidence) : Type 0 where
  pub frame : ℕ
  pub is : IsTested streams pdos frame
  pub its : id_at streams frame ≡ id
  pub judged : IsJudged (trial id rate streams pdos (kept pdos (is_member up)) frame) (said_at streams rate (frame_of streams id) e)

-- what is shown of a cause is what the test says: of members, of SYNC, or of an SDO frame
abbrev pub IsTestedCause : List Stream → ℕ → Rate → Cause → Type 0
IsTestedCause streams pdos rate (Places members) = AreTestedIn first_range.least streams pdos rate members
IsTestedCause streams pdos rate (Sync busy) = (sync : ℕ) × IsSync streams pdos sync × IsLong (sync_trial rate streams pdos sync)
IsTestedCause streams pdos rate (Sdo up id e) = AreTestedIn second_range.least streams pdos rate up × IsFrameTested streams pdos rate up id e

abbrev pub IsTestedIn : List Stream → ℕ → Refusal → Type 0
IsTestedIn streams pdos r = IsTestedCause streams pdos r.rate r.cause

-- refusals of a network as they are shown
pub record AreReasons (net : Net) (refusals : List Refusal) (shown : List RefusedRate) : Type 0 where
  pub shown_are : shown ≡ map (refused_of net.set (length net.rows)) refusals
  pub tested : All (IsTestedIn net.set (length net.rows)) refusals
