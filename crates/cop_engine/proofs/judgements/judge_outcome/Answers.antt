use Rattle.cop_engine.proofs.JudgementLemmas.{judged_gives}
use Rattle.cop_engine.proofs.judgements.judge_outcome.Goals as goal

pub returns-in-Planned : goal.returns-in-Planned
returns-in-Planned c asked nodes pdos eds n =
    judged_gives asked nodes pdos eds c.args.trace.now c.in-Planned.plan c.judged_by.result (rw c.in-Planned.is at n) c.judged_by.ensures
