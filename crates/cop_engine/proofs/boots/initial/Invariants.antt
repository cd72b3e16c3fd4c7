use Rattle.std.proofs.Common.{◌≡◌, take}
use Rattle.cop_dict.specs.Dict.{initial}
use Rattle.cop_engine.proofs.boots.initial.Given as goal

abbrev pub invariant-loop-object : goal.invariant-loop-object
invariant-loop-object l = l.copy ≡ initial (take l.object-index l.dict)
