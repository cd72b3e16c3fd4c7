use Rattle.std.proofs.Common.{refl}
use Rattle.cop_errors.proofs.ExamplePasses.{example_passes}
use Rattle.cop_errors.proofs.ExampleRun.{example_disturbed, example_rare}
use Rattle.cop_errors.proofs.laws.an_error_is_met.Goals as goal

pub returns-clause-disturbed : goal.returns-clause-disturbed
returns-clause-disturbed c = example_disturbed

pub returns-clause-rare : goal.returns-clause-rare
returns-clause-rare c = example_rare

pub returns-clause-ends : goal.returns-clause-ends
returns-clause-ends c = refl

pub returns-clause-at_the_deadline : goal.returns-clause-at_the_deadline
returns-clause-at_the_deadline c = refl

pub returns-clause-passes : goal.returns-clause-passes
returns-clause-passes c = example_passes
