use Rattle.cop_engine.specs.Checks.{AreChecked}
use Rattle.cop_engine.proofs.checks.check_each.Given as goal

abbrev pub invariant-loop-refusal : goal.invariant-loop-refusal
invariant-loop-refusal l = AreChecked l.set l.pdos l.refusals l.answers.items l.refusal-index
