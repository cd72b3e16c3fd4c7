use Rattle.std.specs.List.{AllByRecursion}
use Rattle.cop_transfer.specs.ReadingEach.{IsNode}
use Rattle.cop_serial.proofs.naming.numbers_of.Given as goal

abbrev pub invariant-loop-one : goal.invariant-loop-one
invariant-loop-one l = AllByRecursion IsNode l.nodes.items
