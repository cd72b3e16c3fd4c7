use Rattle.std.proofs.Common.{◌<◌, ◌+◌, ◌∙◌, ℕ, Option, None, get_or, length, sym, arith}
use Rattle.std.proofs.lemmas.List.{get_or-replicate, length-replicate}
use Rattle.cop_dcf.specs.Identifiers.{uses, IsNoted}
use Rattle.cop_dcf.proofs.IdentifierLemmas.{rows_more, all_rows, none_yet}
use Rattle.cop_dcf.proofs.identifiers.identifiers.Goals as goal

pub loop-pdo-init : goal.loop-pdo-init
loop-pdo-init c = record {
  size = length-replicate {A = Option ℕ} 1536 None;
  each = λ place lt. get_or-replicate 1536 place None None lt ∙ sym (none_yet c.args.rows.now c.args.ids.now c.args.node (0x1400 + place));
}

pub loop-pdo-preserved : goal.loop-pdo-preserved
loop-pdo-preserved c =
    let row = c.index-rows-pdo.result in
    let inside : c.loop-pdo.pdo < length c.args.ids.now = omega (arith, c.requires.count) in
    let noted : IsNoted c.note_row.new.places c.loop-pdo.places (uses (get_or c.args.rows.now c.loop-pdo.pdo row) c.args.node) (get_or c.args.ids.now c.loop-pdo.pdo 0) =
    rw (← c.index-rows-pdo.is) c.note_row.ensures in record {
      size = c.note_row.array_long;
      each = rows_more c.note_row.new.places c.loop-pdo.places c.args.rows.now c.args.ids.now c.loop-pdo.pdo row 0 c.args.node c.loop-pdo-test.true inside c.loop-pdo.invariant.each noted;
    }

pub returns : goal.returns
returns c = record {
  size = c.loop-pdo.invariant.size;
  each = λ place lt. c.loop-pdo.invariant.each place lt ∙ all_rows c.args.rows.now c.args.ids.now c.loop-pdo.pdo c.args.node (0x1400 + place) c.loop-pdo-test.false c.requires.count;
}
