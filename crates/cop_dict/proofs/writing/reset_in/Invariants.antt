use Rattle.std.proofs.Common.{◌≡◌, ◌++◌, map, take, drop}
use Rattle.cop_dict.specs.Dict.{as_built}
use Rattle.cop_dict.proofs.writing.reset_in.Given as goal

abbrev pub invariant-loop-object : goal.invariant-loop-object
invariant-loop-object l = l.objects ≡ map as_built (take l.object-index l.initial.objects) ++ drop l.object-index l.initial.objects
