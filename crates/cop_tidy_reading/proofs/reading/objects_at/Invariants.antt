use Rattle.std.proofs.Common.{◌≡◌, map, drop}
use Rattle.cop_tidy_reading.specs.Questions.{all_of}
use Rattle.cop_tidy_reading.specs.Gathering.{joined_by, gathered}
use Rattle.cop_tidy_reading.specs.SeenValues.{seen}
use Rattle.cop_tidy_reading.specs.Objects.{described_at}
use Rattle.cop_tidy_reading.proofs.reading.objects_at.Given as goal

abbrev pub invariant-loop-index : goal.invariant-loop-index
invariant-loop-index l =
    gathered l.earliest.question l.objects.items (joined_by (λ list. list) (all_of (map (described_at (seen l.whole)) (drop l.index-index l.indexes))))
    ≡ joined_by (λ list. list) (all_of (map (described_at (seen l.whole)) l.indexes))
