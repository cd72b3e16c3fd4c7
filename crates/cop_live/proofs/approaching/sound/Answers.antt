use Rattle.std.proofs.Common.{sym, ◌∙◌}
use Rattle.cop_live.proofs.ApproachLemmas.{sounds_so}
use Rattle.cop_live.proofs.approaching.sound.Goals as goal

pub returns-in-None-clause-sounds : goal.returns-in-None-clause-sounds
returns-in-None-clause-sounds g c = sounds_so g.P.Port.reads g.P.Port.writes g.P.Port.asks c.args.rate c.args.senders.now c.args.only c.args.answer c.args.port.now c.ask_flags.new.port c.go_on.new.port c.in-Some.flags _ c.go_on.result c.in-Some.ensures.told (sym c.in-None.is ∙ c.error_in.ensures) c.go_on.ensures.goes_on
