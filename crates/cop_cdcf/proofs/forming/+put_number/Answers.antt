use Rattle.std.proofs.Common.{arith}
use Rattle.cop_cdcf.proofs.ReadingLemmas.{byte_more, none_more}
use Rattle.cop_cdcf.proofs.forming.+put_number.Goals as goal

pub returns-then-count-eq0 : goal.returns-then-count-eq0
returns-then-count-eq0 t c = none_more c.args.bytes.now.items c.args.number c.args.count c.if-count-eq0.true

pub returns : goal.returns
returns t c =
    byte_more c.args.bytes.now.items c.push.new.self.items c.put_number.new.bytes.items c.args.number c.args.count
    (omega arith) c.in_ok-push.ensures.items c.in_ok-put_number.ensures
