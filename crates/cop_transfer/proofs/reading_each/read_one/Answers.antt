use Rattle.std.proofs.Common.{◌∙◌, refl}
use Rattle.cop_sdo.specs.Message.{message_of}
use Rattle.cop_identity.proofs.AskingLemmas.{on_err}
use Rattle.cop_transfer.proofs.ReadingLemmas.{one_read, one_stopped, one_failed}
use Rattle.cop_transfer.proofs.reading_each.read_one.Goals as goal

pub returns-clause-read : goal.returns-clause-read
returns-clause-read g c =
    one_read g.P.Port.reads g.P.Port.writes g.P.Port.asks c.args.ticks c.args.at c.args.node c.args.port.now c.wait.new.port c.carry.new.port c.new-client.result c.carry.new.client
    (record { client = c.upload.new.self; frame = message_of c.in-Ok.first }) _ (c.wait.ensures.paused c.if-not-wait.false) c.new-client.ensures c.in-Ok.ensures c.in-Some.ensures.carried (c.in_ok-bytes.ensures.items ∙ c.taken.ensures) refl

pub returns-in_default-carry-clause-failed : goal.returns-in_default-carry-clause-failed
returns-in_default-carry-clause-failed g c =
    one_failed g.P.Port.reads g.P.Port.writes g.P.Port.asks c.args.ticks c.args.at g.P.Port.fails c.args.node c.args.port.now c.wait.new.port c.carry.new.port c.new-client.result
    (record { client = c.upload.new.self; frame = message_of c.in-Ok.first }) (c.wait.ensures.paused c.if-not-wait.false) c.new-client.ensures c.in-Ok.ensures c.in_default-carry.ensures.failed

pub returns-in_err-bytes-clause-short : goal.returns-in_err-bytes-clause-short
returns-in_err-bytes-clause-short g c =
    on_err _ _
    (one_stopped g.P.Port.reads g.P.Port.writes g.P.Port.asks c.args.ticks c.args.at c.args.node c.args.port.now c.wait.new.port c.carry.new.port c.new-client.result c.carry.new.client
    (record { client = c.upload.new.self; frame = message_of c.in-Ok.first }) _ (c.wait.ensures.paused c.if-not-wait.false) c.new-client.ensures c.in-Ok.ensures c.in-Some.ensures.carried)
