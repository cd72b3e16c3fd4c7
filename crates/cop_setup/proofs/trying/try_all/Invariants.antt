use Rattle.std.proofs.Common.{◌≡◌, take}
use Rattle.cop_setup.specs.Settings.{planned}
use Rattle.cop_setup.specs.Trying.{TakesInTurn}
use Rattle.cop_setup.proofs.trying.try_all.Given as goal

abbrev pub invariant-loop-place : goal.invariant-loop-place
invariant-loop-place l = TakesInTurn l.initial.dict (take l.place l.settings) × (l.dict ≡ planned l.initial.dict (take l.place l.settings))
