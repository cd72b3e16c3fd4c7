use Rattle.std.proofs.Common.{◌≡◌, ◌∙◌, ℕ, ◌<◌, Bool, true, false, length, sym, sum_by, length-append, arith}
use Rattle.std.proofs.lemmas.List.Sums.{sum_by_push}
use Rattle.cop_rta.specs.SumsLemmas.{sum_where-none, sum_where-more_yes, sum_where-more_no}
use Rattle.cop_rta.specs.Test.{is_flagged, of_stream, load_of}
use Rattle.cop_rta.specs.Paces.{bits_in}
use Rattle.cop_rta.proofs.PaceLemmas.{bits_more, pace_with, pace_small}
use Rattle.cop_rta.proofs.rows.fill.Goals as goal
use Rattle.cop_rta.proofs.rows.fill.Goals.{then-has, else-has}

pub loop-k-init : goal.loop-k-init
loop-k-init c = rw c.clear.ensures (record {
  sums = λ rate time early. omega (arith, sum_where-none (is_flagged c.args.above.now) (of_stream (load_of rate c.args.ahead time) c.args.set.now));
  few = omega arith;
})

pub loop-k-preserved : goal.loop-k-preserved
loop-k-preserved c =
    let passes : ℕ → Bool = is_flagged c.args.above.now in
    elim c.if-has.branch [
      | then-has w ↦
          let inside : c.loop-k.k < length c.args.set.now = omega (arith, c.loop-k-test.true, c.paces-pace-items.ensures.paces.count) in
          let yes : passes c.loop-k.k ≡ true = sym c.has.ensures ∙ w.if-has.true in
          rw (w.row-is, w.push.ensures.items) (record {
            sums = λ rate time early.
                rw (sum_by_push (bits_in time) c.loop-k.row.items w.after.result)
                (bits_more rate c.args.ahead c.args.set.now c.loop-k.k w.after.result inside
                (pace_with c.args.ahead c.requires.ahead c.args.set.now c.paces-pace-items.result.now c.paces-pace-items.ensures.paces c.loop-k.k c.pace-item.result w.after.result inside c.pace-item.is w.after.ensures) time early (sum_by (bits_in time) c.loop-k.row.items) _ (c.loop-k.invariant.sums rate time early)
                ∙ sym (sum_where-more_yes passes (of_stream (load_of rate c.args.ahead time) c.args.set.now) c.loop-k.k yes));
            few = simp length-append (omega (arith, c.loop-k.invariant.few));
          })
      | else-has w ↦
          let no : passes c.loop-k.k ≡ false = sym c.has.ensures ∙ w.if-has.false in
          rw w.row-is (record {
            sums = λ rate time early. c.loop-k.invariant.sums rate time early ∙ sym (sum_where-more_no passes (of_stream (load_of rate c.args.ahead time) c.args.set.now) c.loop-k.k no);
            few = omega (arith, c.loop-k.invariant.few);
          })
    ]

pub after-requires-clause-own : goal.after-requires-clause-own
after-requires-clause-own c = pace_small c.args.set.now c.paces-pace-items.result.now c.paces-pace-items.ensures.paces c.loop-k.k c.pace-item.result (omega (arith, c.loop-k-test.true, c.paces-pace-items.ensures.paces.count)) c.pace-item.is
