use Rattle.std.proofs.Common.{◌∙◌, ◌&&◌, sym, ap}
use Rattle.cop_bus.specs.Trace.{nth_that, is_queue, is_start, count_to}
use Rattle.cop_bus.specs.Judge.{has_one_to_send, is_soon_queued}
use Rattle.cop_bus.proofs.judging.has_one_to_send.Goals as goal

pub returns-then-any_waits : goal.returns-then-any_waits
returns-then-any_waits c streams h =
    let steps = c.args.steps.now in
    let a = c.if-any_waits.ensures streams steps c.args.i h in
    let u = c.unsent_of.ensures c.args.i c.requires.unsent in
    c.is_soon_queued.ensures ∙ ap (is_soon_queued c.args.ticks c.in-Start.at) u
    ∙ ap (λ b. b && is_soon_queued c.args.ticks c.in-Start.at (nth_that (is_queue c.in-Start.id) (count_to (is_start c.in-Start.id) steps c.args.i) steps)) a
    ∙ sym (ap (has_one_to_send c.args.ticks streams steps c.args.i) c.in-Start.is)
