use Rattle.std.proofs.Common.{◌≡◌, ◌-◌, ◌≤◌, ◌++◌}
use Rattle.cop_eds.specs.Steps.{each}
use Rattle.cop_eds.specs.Lists.{subs_from, subs_of, described_sub}
use Rattle.cop_eds.specs.Objects.{held_subs}
use Rattle.cop_eds.proofs.objects.read_subs.Given as goal

abbrev pub invariant-loop-sub : goal.invariant-loop-sub
invariant-loop-sub l = record {
  checked : each (described_sub l.text) (subs_from l.text l.index l.from (256 - l.from)) ≡ each (described_sub l.text) (subs_of l.text l.index);
  found : l.objects.items ++ held_subs l.text l.index l.holds_subs (subs_from l.text l.index l.from (256 - l.from))
      ≡ l.initial.objects.items ++ held_subs l.text l.index l.holds_subs (subs_of l.text l.index);
  inside : l.from ≤ 256;
}

abbrev pub decreases-loop-sub : goal.decreases-loop-sub
decreases-loop-sub l = 256 - l.from
