use Rattle.std.proofs.Common.{◌<◌, length, refl, arith}
use Rattle.std.proofs.lemmas.List.{take_all}
use Rattle.std.proofs.lemmas.List.Elements.{All-more}
use Rattle.cop_rta.specs.Test.{flagged_place}
use Rattle.cop_rta.specs.Placing.{Flags}
use Rattle.cop_cert.specs.declared.refusals.Member.{Member}
use Rattle.cop_cert.specs.Evidence.{IsEvidence}
use Rattle.cop_cert.proofs.TrialLemmas.{end_for_each}
use Rattle.cop_cert.proofs.checking.have_evidence.Goals as goal

pub loop-member-preserved : goal.loop-member-preserved
loop-member-preserved c =
    let below : c.loop-member.member-index < length c.args.members.now = omega (arith, c.loop-member-test.true) in
    let trial : Flags = record { streams = c.args.at.now.streams; flags = c.args.above.now; rate = c.args.at.now.rate } in
    record {
      known = end_for_each trial c.member-item.result.pdo
          (rw (← c.member-item.is) at (c.requires.inside c.loop-member.member-index c.member-item.result below))
          (rw (← c.member-item.is) at (c.requires.flagged c.loop-member.member-index c.member-item.result below))
          c.busy-before.result.now c.busy_end_after-end.result (rw (← c.busy-before.ensures, c.beside-busy.ensures, c.among-shared.ensures) at c.busy_end_after-end.ensures);
      shown = All-more (λ (m : Member). IsEvidence (flagged_place c.args.at.now.streams c.args.above.now m.pdo c.args.at.now.rate) m.evidence) c.args.members.now c.loop-member.member-index c.member-item.result below c.loop-member.invariant.shown
          (rw (← c.member-item.is) (rw (c.beside-busy.ensures, c.among-shared.ensures) at (c.has_evidence.ensures.0 c.if-not-has_evidence.false)));
    }

pub returns : goal.returns
returns c = (λ t. rw (take_all c.loop-member.member-index c.args.members.now (omega (arith, c.loop-member-test.false))) at c.loop-member.invariant.shown, λ all. refl)
