use Rattle.std.proofs.Common.{◌≡◌, ◌-◌, None}
use Rattle.cop_tidy_reading.specs.Questions.{all_of, asked_after}
use Rattle.cop_tidy_reading.specs.SeenValues.{seen}
use Rattle.cop_tidy_reading.specs.Objects.{sub_checks}
use Rattle.cop_tidy_reading.proofs.checks.check_each.Given as goal

abbrev pub invariant-loop-sub : goal.invariant-loop-sub
invariant-loop-sub l =
    asked_after l.earliest.question (all_of (sub_checks (seen l.whole) l.index l.sub (256 - l.sub))) ≡ asked_after None (all_of (sub_checks (seen l.whole) l.index 0 256))
