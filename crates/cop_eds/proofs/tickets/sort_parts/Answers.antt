use Rattle.std.proofs.Common.{arith, subst, sym}
use Rattle.std.specs.List.Sorted.{IsPermutation}
use Rattle.std.proofs.lemmas.List.Sorted.{IsPermutation-refl, IsPermutation-trans}
use Rattle.cop_eds.proofs.tickets.sort_parts.Goals.{then-part_of, else-part_of}
use Rattle.cop_eds.proofs.tickets.sort_parts.Goals as goal

pub loop-at-init : goal.loop-at-init
loop-at-init c = record { moved = IsPermutation-refl c.args.tickets.now; before = omega arith; inside = omega arith }

pub returns : goal.returns
returns c = IsPermutation-trans _ _ _ c.loop-at.invariant.moved c.sort_between-2.ensures

pub loop-at-preserved : goal.loop-at-preserved
loop-at-preserved c =
    let at = c.loop-at-test.true in
    let before = c.loop-at.invariant.before in
    let inside = c.loop-at.invariant.inside in
    let same = c.if-part_of.auto.tickets in
    elim c.if-part_of.branch [
      | then-part_of w ↦ record {
        moved = subst (IsPermutation c.args.tickets.now) (sym w.tickets-is) (IsPermutation-trans _ _ _ c.loop-at.invariant.moved w.sort_between.ensures);
        before = let is = w.from-is in omega (arith, is);
        inside = let is = w.from-is in omega (arith, is, same, at);
      }
      | else-part_of w ↦ record {
        moved = subst (IsPermutation c.args.tickets.now) (sym w.tickets-is) c.loop-at.invariant.moved;
        before = let is = w.from-is in omega (arith, is, before);
        inside = let is = w.from-is in omega (arith, is, same, inside);
      }
    ]
