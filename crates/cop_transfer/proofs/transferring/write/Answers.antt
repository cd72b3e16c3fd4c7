use Rattle.cop_sdo.specs.Message.{message_of}
use Rattle.cop_transfer.proofs.TransferLemmas.{written_so, write_failed}
use Rattle.cop_transfer.proofs.transferring.write.Goals as goal

pub returns-clause-written : goal.returns-clause-written
returns-clause-written g c =
    written_so g.P.Port.reads g.P.Port.writes g.P.Port.asks g.P.Port.fails c.args.rate c.args.node c.args.at c.args.port.now c.transfer.new.port (record { client = c.download.new.self; frame = message_of c.in_ok-first.first })
    c.args.bytes.now c.new-client.result c.transfer.new.client c.transfer.result c.new-client.ensures c.in_ok-first.ensures.exact c.transfer.ensures.transferred

pub returns-clause-failed : goal.returns-clause-failed
returns-clause-failed g c =
    write_failed g.P.Port.reads g.P.Port.writes g.P.Port.asks g.P.Port.fails c.args.rate c.args.node c.args.at c.args.port.now c.transfer.new.port (record { client = c.download.new.self; frame = message_of c.in_ok-first.first })
    c.args.bytes.now c.new-client.result c.transfer.result c.new-client.ensures c.in_ok-first.ensures.exact c.transfer.ensures.failed
