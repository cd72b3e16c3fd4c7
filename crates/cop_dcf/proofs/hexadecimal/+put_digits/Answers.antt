use Rattle.std.proofs.Common.{arith}
use Rattle.cop_dcf.proofs.DigitLemmas.{byte_more}
use Rattle.cop_dcf.proofs.hexadecimal.+put_digits.Goals as goal

pub returns : goal.returns
returns t c =
    byte_more c.args.text.now.items c.put_digits.new.text.items c.push.new.self.items c.push-2.new.self.items c.args.bytes c.args.number c.digit.result c.digit-2.result
    (omega arith) c.in_ok-put_digits.ensures c.in_ok-push.ensures.items c.in_ok-push-2.ensures.items c.digit.ensures c.digit-2.ensures
