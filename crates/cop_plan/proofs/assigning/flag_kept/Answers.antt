use Rattle.std.proofs.Common.{◌<◌, length, arith, ◌∙◌, refl}
use Rattle.std.proofs.lemmas.List.{length-set}
use Rattle.cop_cert.proofs.MemberLemmas.{flag_number}
use Rattle.cop_plan.proofs.FoundLemmas.{kept_flags}
use Rattle.cop_plan.proofs.assigning.flag_kept.Goals as goal

pub loop-pdo-init : goal.loop-pdo-init
loop-pdo-init c = record {
  size = c.flag_all.ensures.size;
  flagged = λ k h. rw (c.flag_all.ensures.each k h) refl;
}

pub loop-pdo-preserved : goal.loop-pdo-preserved
loop-pdo-preserved c =
    let below : c.loop-pdo.pdo-index < length c.args.listed.now = omega (arith, c.loop-pdo-test.true) in
    record {
      size = simp length-set c.loop-pdo.invariant.size;
      flagged = λ k h. flag_number c.loop-pdo.out c.args.listed.now c.loop-pdo.pdo-index k below
          (omega (arith, c.loop-pdo.invariant.size, c.requires.inside c.loop-pdo.pdo-index 0 below)) ∙ c.loop-pdo.invariant.flagged k h;
    }

pub returns-clause-each : goal.returns-clause-each
returns-clause-each c k h =
    kept_flags c.args.pdos k c.loop-pdo.out c.args.listed.now c.loop-pdo.pdo-index h (omega (arith, c.loop-pdo-test.false)) (rw c.from.ensures at (c.loop-pdo.invariant.flagged k h))
