use Rattle.std.proofs.Common.{take, get_or}
use Rattle.cop_plan.specs.Caps.{capped}
use Rattle.cop_plan.specs.Margins.{AreLoweredBy}
use Rattle.cop_plan.proofs.margins.lowered.Given as goal

abbrev pub invariant-loop-k : goal.invariant-loop-k
invariant-loop-k l = AreLoweredBy (capped l.margin (λ k. get_or l.caps k 0)) (take l.k l.set) l.lowered
