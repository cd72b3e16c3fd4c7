use Rattle.std.proofs.Common.{◌≡◌, map, take}
use Rattle.cop_figures.specs.Reasons.{refused_of}
use Rattle.cop_figures.proofs.refused.all_refused.Given as goal

abbrev pub invariant-loop-refusal : goal.invariant-loop-refusal
invariant-loop-refusal l = l.rates.items ≡ map (refused_of l.set l.pdos) (take l.refusal-index l.refusals)
