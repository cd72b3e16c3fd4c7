use Rattle.cop_live.specs.declared.opening.Reply.TheVariants as answers
use Rattle.cop_live.proofs.ApproachLemmas.{looked_so}
use Rattle.cop_live.proofs.approaching.look.Goals as goal

pub returns-in-Passive-clause-looked : goal.returns-in-Passive-clause-looked
returns-in-Passive-clause-looked g c = looked_so g.P.Port.reads g.P.Port.writes g.P.Port.asks c.args.rate c.args.senders.now c.args.only answers.Taken c.args.port.now c.open_to_listen.new.port c.hear.new.port c.hear.result c.in-Passive.ensures.opened c.hear.ensures.heard

pub returns-in-Untold-clause-looked : goal.returns-in-Untold-clause-looked
returns-in-Untold-clause-looked g c = looked_so g.P.Port.reads g.P.Port.writes g.P.Port.asks c.args.rate c.args.senders.now c.args.only answers.Silent c.args.port.now c.open_to_listen.new.port c.hear-in-Untold.new.port c.hear-in-Untold.result c.in-Untold.ensures.opened c.hear-in-Untold.ensures.heard

pub returns-in-Active-clause-looked : goal.returns-in-Active-clause-looked
returns-in-Active-clause-looked g c = looked_so g.P.Port.reads g.P.Port.writes g.P.Port.asks c.args.rate c.args.senders.now c.args.only answers.Refused c.args.port.now c.open_to_listen.new.port c.hear-in-Active.new.port c.hear-in-Active.result c.in-Active.ensures.opened c.hear-in-Active.ensures.heard
