use Rattle.std.proofs.Common.{length}
use Rattle.cop_plan.specs.Values.{id_of}
use Rattle.cop_plan.proofs.RenameLemmas.{AreRenamed}
use Rattle.cop_standing.proofs.renaming.renamed.Given as goal

abbrev pub invariant-loop-k : goal.invariant-loop-k
invariant-loop-k l = AreRenamed l.set (length l.ids) (id_of l.ids) l.k l.renamed
