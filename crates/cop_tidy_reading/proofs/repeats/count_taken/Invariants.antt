use Rattle.std.proofs.Common.{◌≡◌, map, drop}
use Rattle.cop_tidy_reading.specs.Seen.{said_of}
use Rattle.cop_tidy_reading.specs.Repeats.{pairs_among}
use Rattle.cop_tidy_reading.proofs.repeats.count_taken.Given as goal

abbrev pub invariant-loop-place : goal.invariant-loop-place
invariant-loop-place l = pairs_among (map said_of (drop l.place l.items)) ≡ pairs_among (map said_of l.items)
