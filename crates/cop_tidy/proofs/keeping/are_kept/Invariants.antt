use Rattle.std.proofs.Common.{take}
use Rattle.std.specs.List.{All}
use Rattle.cop_tidy.specs.Kept.{IsKept}
use Rattle.cop_tidy.proofs.keeping.are_kept.Given as goal

abbrev pub invariant-loop-entry : goal.invariant-loop-entry
invariant-loop-entry l = All (IsKept l.before l.after) (take l.entry-index l.before)
