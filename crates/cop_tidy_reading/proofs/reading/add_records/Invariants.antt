use Rattle.std.proofs.Common.{◌≡◌, ◌+◌, ◌-◌, filter, fold}
use Rattle.std.specs.Ordering.{nat_cmp}
use Rattle.std.specs.BTreeSet.{insert_key}
use Rattle.cop_tidy_reading.specs.SeenValues.{seen}
use Rattle.cop_tidy_reading.specs.Pdos.{implies}
use Rattle.cop_tidy_reading.specs.Reading.{numbers_from}
use Rattle.cop_tidy_reading.proofs.reading.add_records.Given as goal

abbrev pub invariant-loop-place : goal.invariant-loop-place
invariant-loop-place l =
    fold (insert_key nat_cmp) l.indexes.keys (filter (implies (seen l.whole).pdos (seen l.whole).listed) (numbers_from (0x1400 + l.place) (0x800 - l.place)))
    ≡ fold (insert_key nat_cmp) l.initial.indexes.keys (filter (implies (seen l.whole).pdos (seen l.whole).listed) (numbers_from 0x1400 0x800))
