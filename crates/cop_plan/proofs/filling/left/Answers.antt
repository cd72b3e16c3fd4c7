use Rattle.std.proofs.Common.{rules, sym, ◌∙◌, ◌<◌, ◌+◌, length, arith}
use Rattle.std.proofs.lemmas.List.Elements.{All-push}
use Rattle.std.proofs.lemmas.List.Quantifiers.{all_pairs_push}
use Rattle.cop_rta.specs.Test.{is_flagged}
use Rattle.cop_plan.proofs.GreedyLemmas.{found_more, found_same, none_counted, counted, passed_by}
use Rattle.cop_plan.proofs.filling.left.Goals as goal
use Rattle.cop_plan.proofs.filling.left.Goals.{then-is_left+in_ok-push, else-is_left}

pub loop-pdo-init : goal.loop-pdo-init
loop-pdo-init c = record {
  exact = search rules;
  rise = search rules;
  inside = search rules;
  count = rw c.new-found.ensures.items (none_counted (is_flagged c.args.place.now.flags));
}

pub loop-pdo-preserved : goal.loop-pdo-preserved
loop-pdo-preserved c = elim c.if-is_left.branch [
  | then-is_left+in_ok-push w ↦ rw (w.found-is, w.in_ok-push.ensures.items) (record {
    exact = found_more c.loop-pdo.found.items c.loop-pdo.pdo (is_flagged c.args.place.now.flags) c.loop-pdo.invariant.exact (sym c.is_left.ensures ∙ w.if-is_left.true);
    rise = all_pairs_push (λ m n. m < n) c.loop-pdo.found.items c.loop-pdo.pdo c.loop-pdo.invariant.rise c.loop-pdo.invariant.inside;
    inside = All-push (λ m. m < c.loop-pdo.pdo + 1) c.loop-pdo.found.items c.loop-pdo.pdo (λ k d h. omega (arith, c.loop-pdo.invariant.inside k d h)) (omega arith);
    count = counted c.loop-pdo.found.items c.loop-pdo.pdo (is_flagged c.args.place.now.flags) (sym c.is_left.ensures ∙ w.if-is_left.true) c.loop-pdo.invariant.count;
  })
  | else-is_left w ↦ rw w.found-is (record {
    exact = found_same c.loop-pdo.found.items c.loop-pdo.pdo (is_flagged c.args.place.now.flags) c.loop-pdo.invariant.exact (sym c.is_left.ensures ∙ w.if-is_left.false);
    rise = c.loop-pdo.invariant.rise;
    inside = λ k d h. omega (arith, c.loop-pdo.invariant.inside k d h);
    count = passed_by (length c.loop-pdo.found.items) c.loop-pdo.pdo (is_flagged c.args.place.now.flags) (sym c.is_left.ensures ∙ w.if-is_left.false) c.loop-pdo.invariant.count;
  })
]
