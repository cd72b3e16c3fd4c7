use Rattle.std.proofs.Common.{◌≡◌, ◌+◌, ◌≤◌, length, map}
use Rattle.cop_tidy_reading.specs.Items.{items_of}
use Rattle.cop_tidy_reading.specs.Seen.{said_of}
use Rattle.cop_tidy_reading.proofs.ItemsLemmas.{said_by}
use Rattle.cop_tidy_reading.proofs.items.read_items.Given as goal

abbrev pub invariant-loop-rest : goal.invariant-loop-rest
invariant-loop-rest l = record {
  whole : said_by (map said_of l.items.items) l.before l.rest ≡ items_of l.text;
  lines : l.before.lines + length l.rest ≤ length l.text;
  sections : l.before.sections ≤ l.before.lines;
}

abbrev pub decreases-loop-rest : goal.decreases-loop-rest
decreases-loop-rest l = length l.rest
