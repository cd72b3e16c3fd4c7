use Rattle.std.proofs.Common.{◌≡◌, map, filter, drop, None}
use Rattle.cop_tidy_reading.specs.Seen.{said_of}
use Rattle.cop_tidy_reading.specs.Questions.{all_of, asked_after}
use Rattle.cop_tidy_reading.specs.Sections.{is_pair}
use Rattle.cop_tidy_reading.specs.Objects.{check_value}
use Rattle.cop_tidy_reading.proofs.compact.check_part.Given as goal

abbrev pub invariant-loop-item : goal.invariant-loop-item
invariant-loop-item l =
    asked_after l.earliest.question (all_of (map (check_value l.compact) (filter (λ said. is_pair said.kind) (map said_of (drop l.item-index l.part)))))
    ≡ asked_after None (all_of (map (check_value l.compact) (filter (λ said. is_pair said.kind) (map said_of l.part))))
