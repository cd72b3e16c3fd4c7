use Rattle.std.proofs.Common.{◌≡◌, map, drop, find}
use Rattle.cop_tidy_reading.specs.Seen.{said_of}
use Rattle.cop_tidy_reading.specs.Sections.{states}
use Rattle.cop_tidy_reading.proofs.contents.raw_in.Given as goal

abbrev pub invariant-loop-item : goal.invariant-loop-item
invariant-loop-item l =
    find (λ said. states l.key said.kind) (map said_of (drop l.item-index l.part)) ≡ find (λ said. states l.key said.kind) (map said_of l.part)
