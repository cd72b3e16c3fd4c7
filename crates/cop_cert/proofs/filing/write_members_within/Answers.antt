use Rattle.std.proofs.Common.{arith}
use Rattle.cop_cert.specs.Format.{member_rows}
use Rattle.cop_cert.proofs.WithinLemmas.{each_full}
use Rattle.cop_cert.proofs.filing.write_members_within.Goals as goal

pub returns-then-len-gt-MOST_BYTES : goal.returns-then-len-gt-MOST_BYTES
returns-then-len-gt-MOST_BYTES c =
    each_full c.args.text.now.items c.loop-member.text.items c.write_evidence.new.text.items c.args.members.now c.loop-member.member-index c.member-item.result (member_rows c.args.side c.args.rate)
    (omega (arith, c.loop-member-test.true)) c.member-item.is c.loop-member.invariant c.in_ok-write_evidence.ensures (omega (arith, c.if-len-gt-MOST_BYTES.true, c.len.ensures))
