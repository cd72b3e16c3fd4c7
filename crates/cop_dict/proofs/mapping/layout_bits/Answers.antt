use Rattle.std.proofs.Common.{◌≡◌, ◌∙◌, sym, refl, nat_lt, true, false, arith}
use Rattle.std.proofs.lemmas.Bool.Decides.{nat_tests}
use Rattle.std.proofs.lemmas.Result.{err_from_is_err_and}
use Rattle.cop_dict.proofs.MappingLemmas.{goes_on, stops, finishes, layout_fails, layout_ends, too_many}
use Rattle.cop_dict.proofs.mapping.layout_bits.Goals as goal

pub returns-then-count-gt64 : goal.returns-then-count-gt64
returns-then-count-gt64 c = sym (too_many _ _ _ (grind (arith, nat_tests)))

pub returns-in_err-mapped_at : goal.returns-in_err-mapped_at
returns-in_err-mapped_at c =
    let p = err_from_is_err_and c.from_residual.result c.from_residual.ensures.1 in
    rw (p.1, p.2)
    (sym (layout_fails c.args.objects.now c.args.record_index c.args.count _ (grind (arith, nat_tests))
    (sym c.loop-done.invariant.same
    ∙ stops c.args.objects.now c.args.record_index c.loop-done.done c.args.count c.loop-done.bits _ c.loop-done-test.true (sym c.in_err-mapped_at.ensures))))

pub loop-done-preserved : goal.loop-done-preserved
loop-done-preserved c = record {
  same = rw c.from.ensures
      (goes_on c.args.objects.now c.args.record_index c.loop-done.done c.args.count c.loop-done.bits _ c.loop-done-test.true (sym c.in_ok-mapped_at.ensures)
      ∙ c.loop-done.invariant.same);
  small = omega arith;
}

pub returns-then-bits-gt64 : goal.returns-then-bits-gt64
returns-then-bits-gt64 c =
    let whole = finishes c.args.objects.now c.args.record_index c.loop-done.done c.args.count c.loop-done.bits (omega arith) in
    let many : nat_lt 64 c.loop-done.bits ≡ true = grind (arith, nat_tests) in
    sym (layout_ends c.args.objects.now c.args.record_index c.args.count c.loop-done.bits (grind (arith, nat_tests)) (sym c.loop-done.invariant.same ∙ whole) ∙ rw many refl)

pub returns : goal.returns
returns c =
    let whole = finishes c.args.objects.now c.args.record_index c.loop-done.done c.args.count c.loop-done.bits (omega arith) in
    let few : nat_lt 64 c.loop-done.bits ≡ false = grind (arith, nat_tests) in
    sym (layout_ends c.args.objects.now c.args.record_index c.args.count c.loop-done.bits (grind (arith, nat_tests)) (sym c.loop-done.invariant.same ∙ whole) ∙ rw few refl)
