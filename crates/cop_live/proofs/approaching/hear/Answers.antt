use Rattle.cop_live.proofs.ApproachLemmas.{nobody_so, nothing_so}
use Rattle.cop_live.proofs.approaching.hear.Goals as goal

pub returns-in-Nobody-clause-heard : goal.returns-in-Nobody-clause-heard
returns-in-Nobody-clause-heard g c = nobody_so g.P.Port.reads g.P.Port.writes g.P.Port.asks c.args.rate c.args.senders.now c.args.only c.args.answer c.args.port.now c.listen.new.port c.go_on.new.port c.go_on.result c.in-Nobody.ensures.listened c.go_on.ensures.goes_on

pub returns-in-Silence-clause-heard : goal.returns-in-Silence-clause-heard
returns-in-Silence-clause-heard g c = nothing_so g.P.Port.reads g.P.Port.writes g.P.Port.asks c.args.rate c.args.senders.now c.args.only c.args.answer c.args.port.now c.listen.new.port c.sound.new.port c.sound.result c.in-Silence.ensures.listened c.sound.ensures.sounds
