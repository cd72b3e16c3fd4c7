use Rattle.cop_sim.proofs.EarlyLemmas.{answer-early-at}
use Rattle.cop_sim.proofs.turns.ask_at.Goals as goal

pub set-requires-clause-early : goal.set-requires-clause-early
set-requires-clause-early g c = answer-early-at g.B.Behaviour.offer c.args.until c.args.place c.cue-cue.result c.args.before c.args.behaviours.now.items c.in-Ok.offer c.requires.until c.requires.behaviours c.in-Ok.ensures.answer
