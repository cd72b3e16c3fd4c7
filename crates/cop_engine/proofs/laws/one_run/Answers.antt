use Rattle.cop_engine.proofs.OneUse.{one_run}
use Rattle.cop_engine.proofs.laws.one_run.Goals as goal

pub returns : goal.returns
returns c = λ asked nodes pdos eds seed until text trace other another x y.
    one_run c.play_is_one.ensures c.one_outcome.ensures c.planned_streams_are_distinct.ensures asked nodes pdos eds seed until text trace other another x y
