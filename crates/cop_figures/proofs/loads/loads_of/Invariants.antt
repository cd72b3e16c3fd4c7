use Rattle.cop_figures.proofs.LoadLemmas.{AreFirst}
use Rattle.cop_figures.proofs.loads.loads_of.Given as goal

abbrev pub invariant-loop-rate : goal.invariant-loop-rate
invariant-loop-rate l = AreFirst l.network l.rate-index l.loads.items
