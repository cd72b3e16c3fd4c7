use Rattle.cop_live.proofs.ApproachLemmas.{again_so}
use Rattle.cop_live.proofs.approaching.listen_again.Goals as goal

pub returns-in-Active-clause-heard : goal.returns-in-Active-clause-heard
returns-in-Active-clause-heard g c = again_so g.P.Port.reads g.P.Port.writes g.P.Port.asks c.args.rate c.args.senders.now c.args.only c.args.port.now c.open.new.port c.listen.new.port c.listen.result c.in-Active.ensures.opened c.listen.ensures.listened
