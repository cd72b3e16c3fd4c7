use Rattle.std.proofs.Common.{false, refl, arith}
use Rattle.cop_plan.proofs.FillingLemmas.{no_bit}
use Rattle.cop_plan.proofs.DeadlineLemmas.{deadline_more, deadline_missing}
use Rattle.cop_plan.proofs.assigning.have_deadlines.Goals as goal

pub returns-then-is_none : goal.returns-then-is_none
returns-then-is_none c = (
  λ never. absurd (no_bit false never refl),
  λ all. absurd (deadline_missing c.args.streams.now c.loop-p.p c.args.pdos c.index-streams-p.result (omega (arith, c.loop-p-test.true, c.requires)) c.loop-p-test.true c.if-is_none.ensures all),
)

pub loop-p-preserved : goal.loop-p-preserved
loop-p-preserved c =
    deadline_more c.args.streams.now c.loop-p.p c.index-streams-p.result (omega (arith, c.loop-p-test.true, c.requires)) c.if-is_none.ensures c.loop-p.invariant
