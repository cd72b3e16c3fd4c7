use Rattle.std.proofs.Common.{◌≡◌, ◌≤◌, ◌+◌, ◌-◌, ◌*◌}
use Rattle.cop_dict.specs.Mapping.{mapped_from}
use Rattle.cop_dict.proofs.MappingLemmas.{with_rest}
use Rattle.cop_dict.proofs.mapping.layout_bits.Given as goal

abbrev pub invariant-loop-done : goal.invariant-loop-done
invariant-loop-done l = record {
  same : with_rest l.bits (mapped_from l.objects l.record_index (l.done + 1) (l.count - l.done)) ≡ with_rest 0 (mapped_from l.objects l.record_index 1 l.count);
  small : l.bits ≤ 255 * l.done;
}
