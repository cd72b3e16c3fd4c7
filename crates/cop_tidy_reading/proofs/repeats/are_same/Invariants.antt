use Rattle.std.proofs.Common.{◌≡◌, map, drop}
use Rattle.cop_tidy_reading.specs.Seen.{said_of}
use Rattle.cop_tidy_reading.specs.Repeats.{pairs_among, are_same}
use Rattle.cop_tidy_reading.proofs.repeats.are_same.Given as goal

abbrev pub invariant-loop-item : goal.invariant-loop-item
invariant-loop-item l =
    are_same (pairs_among (map said_of (drop l.item-index l.a))) (pairs_among (map said_of l.rest)) ≡ are_same (pairs_among (map said_of l.a)) (pairs_among (map said_of l.fn.b))
