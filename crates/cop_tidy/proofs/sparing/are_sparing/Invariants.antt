use Rattle.std.proofs.Common.{take}
use Rattle.std.specs.List.{All}
use Rattle.cop_tidy.specs.Spared.{IsSparing}
use Rattle.cop_tidy.proofs.sparing.are_sparing.Given as goal

abbrev pub invariant-loop-change : goal.invariant-loop-change
invariant-loop-change l = All IsSparing (take l.change-index l.changes)
