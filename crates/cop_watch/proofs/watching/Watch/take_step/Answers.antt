use Rattle.std.proofs.Common.{◌++◌, ◌∷◌, [], sym, subst}
use Rattle.cop_bus.specs.declared.steps.Step.{Step}
use Rattle.cop_watch.specs.Watching.{HasTaken}
use Rattle.cop_watch.proofs.watching.Watch.take_step.Goals as goal

pub returns-in-Queue-clause-all : goal.returns-in-Queue-clause-all
returns-in-Queue-clause-all c = λ is tau streams steps h. subst (λ (x : Step). HasTaken tau streams (steps ++ x ∷ []) c.take_queue.new.self) (sym c.in-Queue.is) (c.take_queue.ensures.all is tau streams steps h)

pub returns-in-Start-clause-all : goal.returns-in-Start-clause-all
returns-in-Start-clause-all c = λ is tau streams steps h. subst (λ (x : Step). HasTaken tau streams (steps ++ x ∷ []) c.take_start.new.self) (sym c.in-Start.is) (c.take_start.ensures.all is tau streams steps h)

pub returns-in-End-clause-all : goal.returns-in-End-clause-all
returns-in-End-clause-all c = λ is tau streams steps h. subst (λ (x : Step). HasTaken tau streams (steps ++ x ∷ []) c.take_end.new.self) (sym c.in-End.is) (c.take_end.ensures.all is tau streams steps h)
