use Rattle.std.proofs.Common.{◌≡◌, ◌++◌, map, take, drop}
use Rattle.cop_dict.specs.Dict.{reset_communication}
use Rattle.cop_dict.proofs.writing.reset_communication_in.Given as goal

abbrev pub invariant-loop-object : goal.invariant-loop-object
invariant-loop-object l = l.objects ≡ map reset_communication (take l.object-index l.initial.objects) ++ drop l.object-index l.initial.objects
