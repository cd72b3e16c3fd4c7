use Rattle.std.proofs.Common.{◌≤◌, refl, rules}
use Rattle.cop_bus.specs.Trace.{at_of}
use Rattle.cop_watch.proofs.BrokenLemmas.{broken-there}
use Rattle.cop_watch.proofs.watching.Watch.look.Goals as goal

pub returns-in-Some : goal.returns-in-Some
returns-in-Some c = λ tau streams steps h.
    let w = c.args.self.now in
    let x = c.args.step.now in
    let last : w.at ≤ c.max.result = search rules in
    let its : at_of x ≤ c.max.result = search rules in
    (broken-there tau streams steps w x c.in-Some.rule c.max.result h last its c.in-Some.ensures, refl)
