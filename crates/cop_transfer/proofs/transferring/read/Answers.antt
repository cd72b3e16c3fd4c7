use Rattle.std.proofs.Common.{◌∙◌}
use Rattle.cop_sdo.specs.Message.{message_of}
use Rattle.cop_identity.proofs.AskingLemmas.{on_err}
use Rattle.cop_transfer.proofs.TransferLemmas.{read_so, read_failed, read_stops}
use Rattle.cop_transfer.proofs.transferring.read.Goals as goal

pub returns-clause-read : goal.returns-clause-read
returns-clause-read g c =
    read_so g.P.Port.reads g.P.Port.writes g.P.Port.asks g.P.Port.fails c.args.rate c.args.node c.args.at c.args.port.now c.transfer-came.new.port (record { client = c.upload.new.self; frame = message_of c.in-Ok.first })
    c.new-client.result c.transfer-came.new.client _ c.new-client.ensures c.in-Ok.ensures c.transfer-came.ensures.transferred (c.in_ok-from_slice.ensures.items ∙ c.taken.ensures)

pub returns-clause-failed : goal.returns-clause-failed
returns-clause-failed g c =
    read_failed g.P.Port.reads g.P.Port.writes g.P.Port.asks g.P.Port.fails c.args.rate c.args.node c.args.at c.args.port.now c.transfer-came.new.port (record { client = c.upload.new.self; frame = message_of c.in-Ok.first })
    c.new-client.result c.transfer-came.result c.new-client.ensures c.in-Ok.ensures c.transfer-came.ensures.failed

pub returns-in_err-from_slice-clause-short : goal.returns-in_err-from_slice-clause-short
returns-in_err-from_slice-clause-short g c =
    on_err _ _
    (read_stops g.P.Port.reads g.P.Port.writes g.P.Port.asks g.P.Port.fails c.args.rate c.args.node c.args.at c.args.port.now c.transfer-came.new.port (record { client = c.upload.new.self; frame = message_of c.in-Ok.first })
    c.new-client.result c.transfer-came.new.client c.transfer-came.result c.new-client.ensures c.in-Ok.ensures c.transfer-came.ensures.transferred c.transfer-came.ensures.failed)
