use Rattle.std.proofs.Common.{◌≡◌, ◌-◌}
use Rattle.std.specs.Option.{option_to_list}
use Rattle.cop_tidy_reading.specs.Questions.{all_of}
use Rattle.cop_tidy_reading.specs.Gathering.{joined_by, gathered}
use Rattle.cop_tidy_reading.specs.SeenValues.{seen}
use Rattle.cop_tidy_reading.specs.Objects.{subs_from}
use Rattle.cop_tidy_reading.proofs.subs.all_subs.Given as goal

abbrev pub invariant-loop-sub : goal.invariant-loop-sub
invariant-loop-sub l =
    gathered l.earliest.question l.objects.items (joined_by option_to_list (all_of (subs_from (seen l.whole) l.main l.sub (256 - l.sub))))
    ≡ joined_by option_to_list (all_of (subs_from (seen l.whole) l.main 0 256))
