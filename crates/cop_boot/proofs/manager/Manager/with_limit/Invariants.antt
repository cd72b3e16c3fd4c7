use Rattle.std.proofs.Common.{◌≡◌, ◌≤◌, ◌++◌, true, All, map}
use Rattle.cop_boot.specs.Member.{seen, unheard_within, IsMember}
use Rattle.cop_boot.specs.Settings.{is_short_value}
use Rattle.cop_boot.proofs.manager.Manager.with_limit.Given as goal

abbrev pub invariant-loop-node : goal.invariant-loop-node
invariant-loop-node l = record {
  can : (goal.iterator-loop-node).can_next l.node-iterator;
  finite : (goal.iterator-loop-node).is_finite l.node-iterator;
  whole : map (unheard_within l.limit) l.fn.plan.entries ≡ map seen l.members.items ++ map (unheard_within l.limit) l.node-iterator;
  numbers : All (λ e. (1 ≤ e.0) × (e.0 ≤ 127)) l.node-iterator;
  short : All (λ e. All (λ s. is_short_value s ≡ true) e.1.items) l.node-iterator;
  members : All IsMember l.members.items;
}
