use Rattle.std.proofs.Common.{refl}
use Rattle.cop_live.proofs.Sessions.{bytes_sent, bytes_booted, bytes_unsent, bytes_broke}
use Rattle.cop_live.proofs.session.+take_bytes.Goals as goal

pub returns-then-take_byte-clause-sent : goal.returns-then-take_byte-clause-sent
returns-then-take_byte-clause-sent g t c = λ ok.
    bytes_sent g.P.Port.reads g.P.Port.writes g.P.Port.asks c.args.port.now c.take_byte.new.port c.take_bytes.new.port c.args.manager.now c.take_byte.new.manager c.args.boot.now.reader c.take_byte.new.boot.reader c.args.bytes.now
    c.in-len1-up.len_at_least c.if-take_byte.ensures.reader (c.if-take_byte.ensures.manager refl) (c.if-take_byte.ensures.sent refl) (c.take_bytes.ensures.sent ok)

pub returns-then-take_byte-clause-booted : goal.returns-then-take_byte-clause-booted
returns-then-take_byte-clause-booted g t c = λ ok.
    bytes_booted c.args.boot.now.booted c.take_byte.new.boot.booted c.take_bytes.new.boot.booted c.args.boot.now.reader c.take_byte.new.boot.reader c.args.bytes.now
    c.in-len1-up.len_at_least c.if-take_byte.ensures.reader c.if-take_byte.ensures.booted (c.take_bytes.ensures.booted ok)

pub returns-then-take_byte-clause-failed : goal.returns-then-take_byte-clause-failed
returns-then-take_byte-clause-failed g t c = λ no.
    bytes_broke g.P.Port.reads g.P.Port.writes g.P.Port.asks g.P.Port.fails c.args.port.now c.take_byte.new.port c.take_bytes.new.port c.args.manager.now c.take_byte.new.manager c.args.boot.now.reader c.take_byte.new.boot.reader c.args.bytes.now
    c.in-len1-up.len_at_least c.if-take_byte.ensures.reader (c.if-take_byte.ensures.manager refl) (c.if-take_byte.ensures.sent refl) (c.take_bytes.ensures.failed no)

pub returns-else-take_byte-clause-failed : goal.returns-else-take_byte-clause-failed
returns-else-take_byte-clause-failed g t c = λ _.
    bytes_unsent g.P.Port.reads g.P.Port.writes g.P.Port.asks g.P.Port.fails c.args.port.now c.take_byte.new.port c.args.manager.now c.args.boot.now.reader c.args.bytes.now c.in-len1-up.len_at_least (c.if-take_byte.ensures.failed refl)
