use Rattle.std.proofs.Common.{◌≡◌, ◌++◌, [], length}
use Rattle.cop_cert.specs.Format.{lines, members_rows_after}
use Rattle.cop_cert.proofs.sharing.write_members_after.Given as goal

abbrev pub invariant-loop-member : goal.invariant-loop-member
invariant-loop-member l = l.text.items ++ lines (members_rows_after l.side l.rate l.before l.rest) ≡ l.fn.text.items ++ lines (members_rows_after l.side l.rate [] l.members)

abbrev pub decreases-loop-member : goal.decreases-loop-member
decreases-loop-member l = length l.rest
