use Rattle.std.proofs.Common.{◌≡◌, fold}
use Rattle.std.specs.Ordering.{nat_cmp}
use Rattle.std.specs.BTreeSet.{insert_key}
use Rattle.cop_tidy_reading.proofs.reading.add_listed.Given as goal

abbrev pub invariant-loop-index : goal.invariant-loop-index
invariant-loop-index l =
    fold (insert_key nat_cmp) l.indexes.keys l.index-iterator ≡ fold (insert_key nat_cmp) l.initial.indexes.keys l.listed.keys
