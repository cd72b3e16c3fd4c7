use Rattle.std.proofs.Common.{◌≤◌, take, All, Contains}
use Rattle.cop_figures.specs.Errors.{left}
use Rattle.cop_figures.proofs.errors.least.Given as goal

abbrev pub invariant-loop-one : goal.invariant-loop-one
invariant-loop-one l = record { here : Contains l.times l.best; least : All (λ o. left l.best ≤ left o) (take l.one-index l.times) }
