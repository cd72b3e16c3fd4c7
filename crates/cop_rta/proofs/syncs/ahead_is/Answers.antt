use Rattle.cop_rta.proofs.SyncLemmas.{ahead_is, ahead_none, ahead_small}
use Rattle.cop_rta.proofs.syncs.ahead_is.Goals as goal

pub returns-clause-response : goal.returns-clause-response
returns-clause-response c = ahead_is

pub returns-clause-none : goal.returns-clause-none
returns-clause-none c = ahead_none

pub returns-clause-most : goal.returns-clause-most
returns-clause-most c = ahead_small
