use Rattle.std.proofs.Common.{◌+◌, ◌≤◌, map, take}
use Rattle.cop_boot.specs.Member.{seen, AllLast}
use Rattle.cop_boot.proofs.manager.due_after.Given as goal

abbrev pub invariant-loop-member : goal.invariant-loop-member
invariant-loop-member l = record {
  soon : l.due ≤ l.now + 4000000;
  last : AllLast l.due (map seen (take l.member-index l.members));
}
