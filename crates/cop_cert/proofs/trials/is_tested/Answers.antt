use Rattle.std.proofs.Common.{arith, refl, false}
use Rattle.std.proofs.lemmas.Bool.{both_ways}
use Rattle.cop_cert.proofs.FrameLemmas.{tested_here, sdo_here, dated_here}
use Rattle.cop_cert.proofs.trials.is_tested.Goals as goal

pub returns-in-Some : goal.returns-in-Some
returns-in-Some c = (λ t. tested_here c.args.streams.now c.args.frame c.index-streams-frame.result c.requires c.index-streams-frame.is c.args.pdos _ (omega arith) (c.is_sdo.ensures.0 c.if-not-is_sdo.false) c.in-Some.is, λ h. refl)

pub returns-in-None : goal.returns-in-None
returns-in-None c = (λ t. absurd (both_ways false refl t), λ h. absurd (dated_here c.args.streams.now c.args.frame c.index-streams-frame.result c.requires c.index-streams-frame.is c.args.pdos h c.in-None.is))

pub returns-then-not-is_sdo : goal.returns-then-not-is_sdo
returns-then-not-is_sdo c = (
  λ t. absurd (both_ways false refl t),
  λ h. absurd (both_ways c.is_sdo.result c.if-not-is_sdo.true (c.is_sdo.ensures.1 (sdo_here c.args.streams.now c.args.frame c.index-streams-frame.result c.requires c.index-streams-frame.is c.args.pdos h))),
)
