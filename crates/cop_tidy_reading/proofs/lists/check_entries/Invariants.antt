use Rattle.std.proofs.Common.{◌≡◌, None, drop}
use Rattle.cop_tidy_reading.specs.Questions.{all_of, asked_after}
use Rattle.cop_tidy_reading.proofs.lists.check_entries.Given as goal

abbrev pub invariant-loop-index : goal.invariant-loop-index
invariant-loop-index l = asked_after l.earliest.question (all_of (drop l.index-index l.found)) ≡ asked_after None (all_of l.found)
