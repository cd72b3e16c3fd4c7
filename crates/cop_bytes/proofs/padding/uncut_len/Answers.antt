use Rattle.std.proofs.Common.{◌≡◌, ◌+◌, ◌-◌, ◌≤◌, ◌&&◌, Bool, length, drop, slice_index, ap, sym, ◌∙◌, arith}
use Rattle.std.specs.List.{list_all}
use Rattle.cop_bytes.specs.Bytes.{is_end_mark, is_padding, is_tail}
use Rattle.cop_bytes.proofs.PaddingLemmas.{padded_before, kept_before, none_before}
use Rattle.cop_bytes.proofs.padding.uncut_len.Goals.{then-is_tail_start, else-is_tail_start}
use Rattle.cop_bytes.proofs.padding.uncut_len.Goals as goal

pub loop-at-preserved : goal.loop-at-preserved
loop-at-preserved c =
    let at = c.loop-at.at in
    let n = at - 1 in
    let text = c.args.text.now in
    let same : n + 1 ≡ at = omega (arith, c.loop-at-test.true) in
    let within : at ≤ length text = omega (arith, c.loop-at.invariant.lower, c.loop-at.invariant.bounded) in
    let padded : c.is_all_padding-is_padded.result ≡ list_all is_padding (drop n text) =
    c.is_all_padding-is_padded.ensures ∙ padded_before text at n c.loop-at.is_padded same within c.loop-at.invariant.padded in
    let tail : c.is_tail_start.result ≡ is_tail (slice_index text n) (drop at text) =
    c.is_tail_start.ensures ∙ ap (λ (p : Bool). is_end_mark (slice_index text n) && p) c.loop-at.invariant.padded in
    elim c.if-is_tail_start.branch [
      | then-is_tail_start w ↦
          let gone : c.if-is_tail_start.kept - n ≡ 0 = omega (arith, w.kept-is) in
          record {
            padded = padded;
            kept = rw gone (none_before text at n same within (sym tail ∙ w.if-is_tail_start.true));
            lower = omega (arith, w.kept-is);
            bounded = omega (arith, w.kept-is, within);
          }
      | else-is_tail_start w ↦
          record {
            padded = padded;
            kept = rw w.kept-is (kept_before text at n c.loop-at.kept same within c.loop-at.invariant.lower (sym tail ∙ w.if-is_tail_start.false) c.loop-at.invariant.kept);
            lower = omega (arith, w.kept-is, c.loop-at.invariant.lower);
            bounded = omega (arith, w.kept-is, c.loop-at.invariant.bounded);
          }
    ]
