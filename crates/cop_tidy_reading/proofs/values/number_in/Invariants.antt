use Rattle.std.proofs.Common.{◌≡◌, map, drop}
use Rattle.cop_tidy_reading.specs.Values.{reads_in, first_number}
use Rattle.cop_tidy_reading.specs.SeenValues.{source_seen}
use Rattle.cop_tidy_reading.proofs.values.number_in.Given as goal

abbrev pub invariant-loop-source : goal.invariant-loop-source
invariant-loop-source l =
    first_number l.is_needed (reads_in l.reader.digits l.reader.contents.now l.numbers.data_type l.numbers.greatest (map source_seen (drop l.source-index l.sources)))
    ≡ first_number l.is_needed (reads_in l.reader.digits l.reader.contents.now l.numbers.data_type l.numbers.greatest (map source_seen l.sources))
