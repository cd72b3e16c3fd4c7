use Rattle.std.proofs.Common.{arith}
use Rattle.timing_tests.proofs.bus.bus_with_three.Goals as goal

pub returns-clause-queued : goal.returns-clause-queued
returns-clause-queued c now later =
    c.wait-3.ensures.queued now (omega (arith, c.instance-3.ensures.at, later))
    (c.wait-2.ensures.queued now (omega (arith, c.instance-2.ensures.at, later)) (c.wait.ensures.queued now (omega (arith, c.instance.ensures.at, later)) (c.in_ok-bus.ensures.queued now)))
