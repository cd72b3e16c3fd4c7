use Rattle.cop_engine.proofs.WrittenLemmas.{all_hold, only_memory}
use Rattle.cop_engine.proofs.laws.planned_refusals_hold.Goals as goal

pub returns-clause-holds : goal.returns-clause-holds
returns-clause-holds c = λ asked nodes pdos eds files lines all f checked. all_hold asked nodes pdos eds files f lines all checked

pub returns-clause-read : goal.returns-clause-read
returns-clause-read c = λ asked nodes pdos eds files fault f why. only_memory asked nodes pdos eds files f fault why
