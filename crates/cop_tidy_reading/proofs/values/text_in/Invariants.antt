use Rattle.std.proofs.Common.{◌≡◌, map, drop}
use Rattle.cop_tidy_reading.specs.Values.{texts_in, text_by}
use Rattle.cop_tidy_reading.specs.SeenValues.{source_seen}
use Rattle.cop_tidy_reading.proofs.values.text_in.Given as goal

abbrev pub invariant-loop-source : goal.invariant-loop-source
invariant-loop-source l =
    text_by (texts_in l.reader.contents.now (map source_seen (drop l.source-index l.sources))) ≡ text_by (texts_in l.reader.contents.now (map source_seen l.sources))
