use Rattle.std.proofs.Common.{◌≡◌, None, map, drop}
use Rattle.cop_tidy_reading.specs.Questions.{all_of, asked_after}
use Rattle.cop_tidy_reading.specs.Seen.{said_of}
use Rattle.cop_tidy_reading.specs.Lists.{check_header}
use Rattle.cop_tidy_reading.proofs.lists.check_unlisted.Given as goal

abbrev pub invariant-loop-item : goal.invariant-loop-item
invariant-loop-item l =
    asked_after l.earliest.question (all_of (map (check_header l.named.keys l.lacks_entry) (map said_of (drop l.item-index l.items))))
    ≡ asked_after None (all_of (map (check_header l.named.keys l.lacks_entry) (map said_of l.items)))
