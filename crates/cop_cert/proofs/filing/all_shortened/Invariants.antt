use Rattle.std.proofs.Common.{◌≡◌, map, take}
use Rattle.cop_cert.specs.Short.{shortened}
use Rattle.cop_cert.proofs.filing.all_shortened.Given as goal

abbrev pub invariant-loop-refusal : goal.invariant-loop-refusal
invariant-loop-refusal l = l.short.items ≡ map (shortened l.set l.pdos) (take l.refusal-index l.refusals)
