use Rattle.std.proofs.Common.{take}
use Rattle.std.specs.List.{flat_map}
use Rattle.cop_cert.specs.Format.{member_rows}
use Rattle.cop_cert.specs.Writer.{Adds}
use Rattle.cop_cert.proofs.filing.write_members_within.Given as goal

abbrev pub invariant-loop-member : goal.invariant-loop-member
invariant-loop-member l = Adds l.fn.text.items l.text.items (flat_map (member_rows l.side l.rate) (take l.member-index l.members))
