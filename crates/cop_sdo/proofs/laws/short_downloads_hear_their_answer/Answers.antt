use Rattle.cop_sdo.proofs.Giving.{ignored, confirmed, aborted, unexpected}
use Rattle.cop_sdo.proofs.laws.short_downloads_hear_their_answer.Goals as goal

pub returns-clause-ignored : goal.returns-clause-ignored
returns-clause-ignored c node at bytes frame next h other = ignored node at bytes frame next h other

pub returns-clause-confirmed : goal.returns-clause-confirmed
returns-clause-confirmed c node at bytes frame next h answer is = confirmed node at bytes frame next h answer is

pub returns-clause-aborted : goal.returns-clause-aborted
returns-clause-aborted c node code at bytes frame next h answer is = aborted node at bytes frame next h code answer is

pub returns-clause-unexpected : goal.returns-clause-unexpected
returns-clause-unexpected c node at bytes frame next h answer not_this not_abort = unexpected node at bytes frame next h answer not_this not_abort
