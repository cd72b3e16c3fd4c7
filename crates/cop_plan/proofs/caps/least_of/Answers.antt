use Rattle.std.proofs.Common.{◌∙◌, refl, sym}
use Rattle.cop_plan.proofs.DeadlineLemmas.{deadline_read, some_or_none}
use Rattle.cop_plan.proofs.LeastCaps.{least_begins, least_by_deadline, least_undated, all_least}
use Rattle.cop_plan.proofs.caps.least_of.Goals as goal
use Rattle.cop_plan.proofs.caps.least_of.Goals.{then-is_some, else-is_some}

pub loop-k-init : goal.loop-k-init
loop-k-init c = least_begins c.args.streams.now c.args.caps.now c.args.margin

pub loop-k-preserved : goal.loop-k-preserved
loop-k-preserved c = elim c.if-is_some.branch [
  | then-is_some w ↦ rw (w.least-is, w.min-least.ensures)
      (least_by_deadline c.args.streams.now c.args.caps.now c.args.margin c.loop-k.k c.loop-k.least c.loop-k.invariant c.index-streams-k.result.deadline (deadline_read c.args.streams.now c.args.streams.now c.loop-k.k c.index-streams-k.result refl c.loop-k-test.true c.index-streams-k.is) (sym c.is_some.ensures ∙ w.if-is_some.true))
  | else-is_some w ↦ rw w.least-is
      (least_undated c.args.streams.now c.args.caps.now c.args.margin c.loop-k.k c.loop-k.least c.loop-k.invariant (deadline_read c.args.streams.now c.args.streams.now c.loop-k.k c.index-streams-k.result refl c.loop-k-test.true c.index-streams-k.is ∙ some_or_none c.index-streams-k.result.deadline (sym c.is_some.ensures ∙ w.if-is_some.false)))
]

pub returns : goal.returns
returns c = all_least c.args.streams.now c.args.caps.now c.args.margin c.loop-k.k c.loop-k.least c.loop-k.invariant c.loop-k-test.false
