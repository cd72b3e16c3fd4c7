use Rattle.std.proofs.Common.{◌≡◌, take, drop, map, sym, ◌∙◌, arith, length-drop}
use Rattle.cop_tidy_reading.specs.Seen.{said_of}
use Rattle.cop_tidy_reading.proofs.ItemsLemmas.{goes_on}
use Rattle.cop_tidy_reading.proofs.items.read_items.Goals as goal

pub loop-rest-preserved : goal.loop-rest-preserved
loop-rest-preserved c =
    let bytes = c.loop-rest.rest.now in
    let count = c.line_len-count.result in
    let line = rw c.body_of.ensures at c.in_ok-before.ensures.value in
    let on = goes_on (map said_of c.loop-rest.items.items) (map said_of c.read_line.new.items.items) c.loop-rest.before bytes (take count bytes) (drop count bytes) c.line_len-count.ensures.first line in
    record {
      whole = rw (c.in_ok-before.ensures.next, c.behind-rest-in-loop-rest.ensures, c.body_of.ensures) (sym on ∙ c.loop-rest.invariant.whole);
      lines = rw c.behind-rest-in-loop-rest.ensures (omega (arith, length-drop count bytes, c.in_ok-before.ensures.one_line));
      sections = omega (arith, c.in_ok-before.ensures.one_line, c.in_ok-before.ensures.few_sections);
    }
