use Rattle.cop_survey.specs.declared.reaching.Reason.TheVariants as reasons
use Rattle.cop_survey.proofs.ReachingLemmas.{left_so, unleft_so}
use Rattle.cop_survey.proofs.reaching.reach.Goals as goal

pub returns-in-Garbled-clause-failed : goal.returns-in-Garbled-clause-failed
returns-in-Garbled-clause-failed g c =
    unleft_so g.P.Port.reads g.P.Port.writes g.P.Port.asks c.args.rate g.P.Port.fails (reasons.Garbled c.in-Garbled.lines) c.args.port.now c.find.new.port c.leave.new.port c.leave.result c.in-Garbled.ensures.found c.leave.ensures.failed

pub returns-in-Erroneous-clause-failed : goal.returns-in-Erroneous-clause-failed
returns-in-Erroneous-clause-failed g c =
    unleft_so g.P.Port.reads g.P.Port.writes g.P.Port.asks c.args.rate g.P.Port.fails (reasons.Erroneous c.in-Erroneous.flags) c.args.port.now c.find.new.port c.leave-in-Erroneous.new.port c.leave-in-Erroneous.result c.in-Erroneous.ensures.found c.leave-in-Erroneous.ensures.failed

pub returns-in-Refused-clause-reached : goal.returns-in-Refused-clause-reached
returns-in-Refused-clause-reached g c =
    left_so g.P.Port.reads g.P.Port.writes g.P.Port.asks c.args.rate (reasons.Unopened c.in-Refused.command) c.args.port.now c.find.new.port c.leave-in-Refused.new.port c.leave-in-Refused.result c.in-Refused.ensures.found c.leave-in-Refused.ensures.leaves

pub returns-in-Refused-clause-failed : goal.returns-in-Refused-clause-failed
returns-in-Refused-clause-failed g c =
    unleft_so g.P.Port.reads g.P.Port.writes g.P.Port.asks c.args.rate g.P.Port.fails (reasons.Unopened c.in-Refused.command) c.args.port.now c.find.new.port c.leave-in-Refused.new.port c.leave-in-Refused.result c.in-Refused.ensures.found c.leave-in-Refused.ensures.failed
