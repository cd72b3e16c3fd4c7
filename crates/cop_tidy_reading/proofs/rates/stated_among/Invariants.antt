use Rattle.std.proofs.Common.{◌≡◌, map, drop}
use Rattle.std.specs.Option.{option_to_list}
use Rattle.cop_tidy_reading.specs.Questions.{all_of}
use Rattle.cop_tidy_reading.specs.Gathering.{joined_by, gathered}
use Rattle.cop_tidy_reading.specs.SeenValues.{seen}
use Rattle.cop_tidy_reading.specs.Reading.{rate_in}
use Rattle.cop_tidy_reading.proofs.rates.stated_among.Given as goal

abbrev pub invariant-loop-rate : goal.invariant-loop-rate
invariant-loop-rate l =
    gathered l.earliest.question l.found.items (joined_by option_to_list (all_of (map (rate_in (seen l.whole) l.section) (drop l.rate-index l.rates))))
    ≡ joined_by option_to_list (all_of (map (rate_in (seen l.whole) l.section) l.rates))
