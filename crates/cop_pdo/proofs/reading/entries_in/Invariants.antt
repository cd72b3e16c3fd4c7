use Rattle.std.proofs.Common.{◌≡◌, ◌+◌, ◌-◌, [], length}
use Rattle.cop_dict.specs.Mapping.{mapped_from}
use Rattle.cop_pdo.proofs.ReadingLemmas.{with_rest}
use Rattle.cop_pdo.proofs.reading.entries_in.Given as goal

abbrev pub invariant-loop-done : goal.invariant-loop-done
invariant-loop-done l =
    (length l.entries.items ≡ l.done)
    × (with_rest l.entries.items (mapped_from l.dict l.index (l.done + 1) (l.count - l.done)) ≡ with_rest [] (mapped_from l.dict l.index 1 l.count))
