use Rattle.std.proofs.Common.{◌∙◌, sym}
use Rattle.cop_sim.proofs.TurnLemmas.{put_ok, not_some}
use Rattle.cop_sim.proofs.turns.put.Goals as goal

pub returns-clause-put : goal.returns-clause-put
returns-clause-put c =
    put_ok c.args.waiting.now c.queue.new.self c.args.joined.now c.args.place c.args.instance c.queue.result
    (not_some c.args.joined.now c.args.place (sym c.eq.ensures ∙ c.if-eq.false)) c.queue.ensures.room c.queue.ensures.ok
