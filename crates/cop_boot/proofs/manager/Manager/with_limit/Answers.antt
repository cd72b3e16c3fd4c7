use Rattle.std.proofs.Common.{◌≡◌, ◌≤◌, true, All, map, refl, sym, subst, arith}
use Rattle.std.proofs.lemmas.List.Elements.{All-push, All-rest, All-head, All-same, All-nil}
use Rattle.cop_boot.specs.Member.{seen, IsMember}
use Rattle.cop_boot.specs.Settings.{is_short_value}
use Rattle.cop_boot.proofs.DueLemmas.{all_last_from_zero}
use Rattle.cop_boot.proofs.PlanLemmas.{one_more, made_apart, plan_nodes, plan_short}
use Rattle.cop_boot.proofs.manager.Manager.with_limit.Goals as goal

pub loop-node-init : goal.loop-node-init
loop-node-init c = let i = c.into_iter-node-iterator.ensures.into_iter_gives.0 in
    record {
      can = tt;
      finite = tt;
      whole = rw (c.in_ok-members.ensures.items, i) refl;
      numbers = All-same (λ e. (1 ≤ e.0) × (e.0 ≤ 127)) _ _ i (plan_nodes c.args.plan.entries c.requires);
      short = All-same (λ e. All (λ s. is_short_value s ≡ true) e.1.items) _ _ i (plan_short c.args.plan.entries c.requires);
      members = All-same IsMember _ _ c.in_ok-members.ensures.items (All-nil IsMember);
    }

pub new-requires-clause-short : goal.new-requires-clause-short
new-requires-clause-short c =
    All-head (λ e. All (λ s. is_short_value s ≡ true) e.1.items) (c.in-Some.node, c.in-Some.settings) c.next.new.self
    (All-same (λ e. All (λ s. is_short_value s ≡ true) e.1.items) _ _ (sym c.in-Some.ensures.steps) c.loop-node.invariant.short)

pub loop-node-preserved : goal.loop-node-preserved
loop-node-preserved c =
    let inv = c.loop-node.invariant in
    record {
      can = inv.can;
      finite = inv.finite;
      whole = one_more c.args.limit c.args.plan.entries c.next.new.self (c.in-Some.node, c.in-Some.settings) c.loop-node.members.items c.push.new.self.items c.new.result c.loop-node.node-iterator
          inv.whole c.in-Some.ensures.steps c.in_ok-push.ensures.items c.new.ensures.node;
      numbers = All-rest (λ e. (1 ≤ e.0) × (e.0 ≤ 127)) (c.in-Some.node, c.in-Some.settings) c.next.new.self c.loop-node.node-iterator c.in-Some.ensures.steps inv.numbers;
      short = All-rest (λ e. All (λ s. is_short_value s ≡ true) e.1.items) (c.in-Some.node, c.in-Some.settings) c.next.new.self c.loop-node.node-iterator c.in-Some.ensures.steps inv.short;
      members = subst (All IsMember) (sym c.in_ok-push.ensures.items) (All-push IsMember c.loop-node.members.items c.new.result inv.members c.new.ensures.member);
    }

pub invariant_of-result : goal.invariant_of-result
invariant_of-result c = (
  c.loop-node.invariant.members,
  made_apart c.args.limit c.args.plan.entries c.loop-node.members.items c.loop-node.node-iterator c.len.ensures.ordered c.loop-node.invariant.whole c.in-None.ensures.steps.0,
  record { soon = omega arith; last = all_last_from_zero (map seen c.loop-node.members.items) },
)
