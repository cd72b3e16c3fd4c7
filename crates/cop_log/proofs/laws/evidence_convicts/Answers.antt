use Rattle.cop_log.proofs.Convicts.{convicts}
use Rattle.cop_log.proofs.laws.evidence_convicts.Goals as goal

pub returns : goal.returns
returns c t until run log finding bounded with h = convicts t until run log bounded with finding h
