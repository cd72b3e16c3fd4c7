use Rattle.std.proofs.Common.{◌≡◌, ◌∙◌, ℕ, ◌<◌, Bool, true, false, length, sym, arith}
use Rattle.cop_rta.specs.SumsLemmas.{sum_where-more_yes, sum_where-more_no}
use Rattle.cop_rta.specs.Test.{place_with, is_above, of_stream, load_of}
use Rattle.cop_rta.proofs.PaceLemmas.{bits_more, pace_with, pace_small}
use Rattle.cop_rta.proofs.demands.bits_above.Goals as goal
use Rattle.cop_rta.proofs.demands.bits_above.Goals.{then-is_other_above, else-is_other_above}

pub loop-k-preserved : goal.loop-k-preserved
loop-k-preserved c =
    let passes : ℕ → Bool = is_above (place_with c.args.set.now c.args.above.now c.args.index c.args.clock.rate c.args.clock.ahead) in
    let load : ℕ → ℕ = of_stream (load_of c.args.clock.rate c.args.clock.ahead c.args.time) c.args.set.now in
    elim c.if-is_other_above.branch [
      | then-is_other_above w ↦
          let inside : c.loop-k.k < length c.args.set.now = omega (arith, c.loop-k-test.true, c.paces-paces.ensures.paces.count) in
          let yes : passes c.loop-k.k ≡ true = sym c.is_other_above.ensures ∙ w.if-is_other_above.true in
          rw (w.bits-is, w.bits_within-bits.ensures.value) (record {
            sum = bits_more c.args.clock.rate c.args.clock.ahead c.args.set.now c.loop-k.k w.after.result inside
                (pace_with c.args.clock.ahead c.args.clock.ahead_most c.args.set.now c.paces-paces.result.now c.paces-paces.ensures.paces c.loop-k.k c.index-paces-k.result w.after.result inside c.index-paces-k.is w.after.ensures) c.args.time c.requires.early c.loop-k.bits _ c.loop-k.invariant.sum
                ∙ sym (sum_where-more_yes passes load c.loop-k.k yes);
            most = omega (arith, c.loop-k.invariant.most, w.bits_within-bits.ensures.most, w.bits_within-bits.ensures.value);
          })
      | else-is_other_above w ↦
          let no : passes c.loop-k.k ≡ false = sym c.is_other_above.ensures ∙ w.if-is_other_above.false in
          rw w.bits-is (record { sum = c.loop-k.invariant.sum ∙ sym (sum_where-more_no passes load c.loop-k.k no); most = omega (arith, c.loop-k.invariant.most) })
    ]

pub after-requires-clause-own : goal.after-requires-clause-own
after-requires-clause-own c = pace_small c.args.set.now c.paces-paces.result.now c.paces-paces.ensures.paces c.loop-k.k c.index-paces-k.result (omega (arith, c.loop-k-test.true, c.paces-paces.ensures.paces.count)) c.index-paces-k.is
