use Rattle.std.proofs.Common.{◌≡◌, map, take}
use Rattle.cop_eds.specs.Objects.{objects_of}
use Rattle.cop_dict.specs.Keys.{said, keys_of}
use Rattle.cop_dict.proofs.blueprint.all_keys.Given as goal

abbrev pub invariant-loop-object : goal.invariant-loop-object
invariant-loop-object l = record {
  all : l.object-items ≡ objects_of l.eds;
  same : map said l.keys.items ≡ map (keys_of l.eds) (take l.object-index l.object-items);
}
