use Rattle.std.proofs.Common.{◌≡◌, map, drop}
use Rattle.std.specs.Prelude.{is_some}
use Rattle.cop_boot.specs.Manager.{node_of}
use Rattle.cop_boot.specs.Member.{seen}
use Rattle.cop_boot.proofs.manager.Manager.has.Given as goal

abbrev pub invariant-loop-member : goal.invariant-loop-member
invariant-loop-member l = is_some (node_of (map seen (drop l.member-index l.member-items)) l.node) ≡ is_some (node_of l.fn.self.nodes l.node)
