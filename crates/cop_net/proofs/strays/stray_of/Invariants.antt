use Rattle.std.proofs.Common.{◌≡◌, drop}
use Rattle.cop_dict.specs.Find.{IsSorted}
use Rattle.cop_net.proofs.StrayLemmas.{stray_in, first_in}
use Rattle.cop_net.proofs.strays.stray_of.Given as goal

abbrev pub invariant-loop-entry : goal.invariant-loop-entry
invariant-loop-entry l = record {
  all : l.entry-items ≡ l.dict;
  sorted : IsSorted l.dict;
  same : stray_in l.used l.node l.dict (drop l.entry-index l.entry-items) ≡ stray_in l.used l.node l.dict l.dict;
  first : first_in l.used l.node l.dict (drop l.entry-index l.entry-items) ≡ first_in l.used l.node l.dict l.dict;
}
