use Rattle.cop_rta.proofs.JitteredLemmas.{passes_with, busy_by-its, queueing_by-its, response_with}
use Rattle.cop_rta.proofs.laws.passes_with.Goals as goal

pub returns-clause-passes : goal.returns-clause-passes
returns-clause-passes c = passes_with

pub returns-clause-busy : goal.returns-clause-busy
returns-clause-busy c = busy_by-its

pub returns-clause-queueing : goal.returns-clause-queueing
returns-clause-queueing c = queueing_by-its

pub returns-clause-responses : goal.returns-clause-responses
returns-clause-responses c = response_with
