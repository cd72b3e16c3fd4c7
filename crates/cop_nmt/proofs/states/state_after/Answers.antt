use Rattle.std.proofs.Common.{rules, sym, ◌∙◌}
use Rattle.cop_nmt.proofs.StateLemmas.{one_more, none_left, last_counts}
use Rattle.cop_nmt.proofs.states.state_after.Goals as goal

pub loop-frame-preserved : goal.loop-frame-preserved
loop-frame-preserved c =
    one_more c.args.node c.loop-frame.frame-index c.loop-frame.state c.on_command.new.self c.on_command.result c.frame-item.result c.args.frames.now c.loop-frame-test.true c.frame-item.is c.on_command.ensures
    ∙ c.loop-frame.invariant

pub returns-clause-fold : goal.returns-clause-fold
returns-clause-fold c =
    sym (none_left c.args.node c.loop-frame.frame-index c.loop-frame.state c.args.frames.now c.loop-frame-test.false) ∙ c.loop-frame.invariant

pub returns-clause-last : goal.returns-clause-last
returns-clause-last c = returns-clause-fold c ∙ last_counts c.args.node c.args.start c.args.frames.now

-- written here so that a body that breaks it is refused at once
pub loop-frame-init : goal.loop-frame-init
loop-frame-init c = search rules
