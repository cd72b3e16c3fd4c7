use Rattle.std.proofs.Common.{◌++◌, ap, sym, ◌∙◌}
use Rattle.cop_eds.specs.Edits.{pair_of}
use Rattle.cop_dcf.specs.Pieces.{is_wanting}
use Rattle.cop_dcf.proofs.PieceLemmas.{wanting_more, there_more}
use Rattle.cop_dcf.proofs.writing.put_new.Goals as goal
use Rattle.cop_dcf.proofs.writing.put_new.Goals.{then-is_wanting+in_ok-extend_from_slice+in_ok-extend_from_slice-2, else-is_wanting}

pub loop-key-preserved : goal.loop-key-preserved
loop-key-preserved c =
    let text = c.args.eds.now in
    let newline = c.args.newline.now in
    let keys = c.args.keys.now in
    let k = c.loop-key.key-index in
    let key = c.key-item.result in
    let test = sym (ap (is_wanting text) c.key-item.is) ∙ sym c.is_wanting.ensures in
    elim c.if-is_wanting.branch [
      | then-is_wanting+in_ok-extend_from_slice+in_ok-extend_from_slice-2 w ↦
          ap (λ v. v.items) w.text-is
          ∙ wanting_more text newline keys k key c.args.text.now.items c.loop-key.text.items w.extend_from_slice-then-is_wanting.new.self.items c.loop-key-test.true (test ∙ w.if-is_wanting.true)
          c.loop-key.invariant
          (w.in_ok-extend_from_slice-2.ensures.items ∙ ap (λ xs. xs ++ newline) (w.in_ok-extend_from_slice.ensures.items ∙ ap (λ xs. c.loop-key.text.items ++ xs) (w.line.ensures ∙ ap pair_of c.key-item.is)))
      | else-is_wanting w ↦
          ap (λ v. v.items) w.text-is
          ∙ there_more text newline keys k key c.args.text.now.items c.loop-key.text.items c.loop-key-test.true (test ∙ w.if-is_wanting.false) c.loop-key.invariant
    ]
