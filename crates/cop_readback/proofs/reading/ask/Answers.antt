use Rattle.std.specs.Prelude.{Option}
use Rattle.cop_sdo.specs.Message.{message_of}
use Rattle.cop_readback.proofs.ReadingLemmas.{request_broke, request_fails}
use Rattle.cop_readback.proofs.reading.ask.Goals as goal

pub returns-then-not-send-clause-failed : goal.returns-then-not-send-clause-failed
returns-then-not-send-clause-failed g c =
    request_broke g.P.Port.reads g.P.Port.writes g.P.Port.asks g.P.Port.fails c.args.question.now c.args.boot.now.began (record { manager = c.args.manager.now; pending = c.args.boot.now.reader }) c.args.port.now (message_of c.request_of.result) c.send.new.port c.request_of.ensures (c.send.ensures.failed c.if-not-send.true)
