use Rattle.cop_transfer.proofs.ReadingLemmas.{failed_so, stopped_so}
use Rattle.cop_transfer.proofs.reading_each.+add_values.Goals as goal

pub returns-in_ok-push-in-len1-up-clause-failed : goal.returns-in_ok-push-in-len1-up-clause-failed
returns-in_ok-push-in-len1-up-clause-failed g t c =
    failed_so g.P.Port.reads g.P.Port.writes g.P.Port.asks c.args.ticks c.args.at c.add_values.result g.P.Port.fails c.args.nodes.now c.in-Some.value c.args.port.now c.read_one.new.port c.add_values.new.port
    c.in-len1-up.len_at_least (rw c.in-Some.is at c.in_ok-value-in-len1-up.ensures.read) c.add_values.ensures.failed

pub returns-in_ok-push-in-len1-up-clause-short : goal.returns-in_ok-push-in-len1-up-clause-short
returns-in_ok-push-in-len1-up-clause-short g t c =
    stopped_so g.P.Port.reads g.P.Port.writes g.P.Port.asks c.args.ticks c.args.at c.add_values.result c.args.nodes.now c.in-Some.value c.args.port.now c.read_one.new.port c.add_values.new.port
    c.in-len1-up.len_at_least (rw c.in-Some.is at c.in_ok-value-in-len1-up.ensures.read) c.add_values.ensures.short
