use Rattle.std.proofs.Common.{◌++◌, ◌∷◌, []}
use Rattle.cop_watch.proofs.LineLemmas.{step_is_taken}
use Rattle.cop_watch.proofs.TextLemmas.{goes-on-with}
use Rattle.cop_watch.proofs.reading.TraceWatch.feed_line.Goals as goal

pub returns-then-is_known : goal.returns-then-is_known
returns-then-is_known c =
    step_is_taken c.args.rest.now c.in-Some.left.now c.in-Some.step c.args.self.now.watch c.take.new.self c.args.self.now.line.items c.args.self.now.stage
    c.in-Some.ensures (c.is_at_step.ensures.line c.if-is_at_step.true) (c.is_at_step.ensures.stage c.if-is_at_step.true)
    (λ tau streams steps h. goes-on-with tau streams (steps ++ c.in-Some.step ∷ []) c.take.result c.take.new.self (c.is_known-is_known.ensures c.if-is_known.true) (c.take.ensures tau streams steps h))
