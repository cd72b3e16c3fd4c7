use Rattle.std.proofs.Common.{◌≡◌, ◌<◌, ℕ, length, get_or, false}
use Rattle.std.specs.Prelude.{is_some}
use Rattle.cop_boot.specs.Manager.{node_of}
use Rattle.cop_boot.proofs.schedule.Numbers.of.Given as goal

abbrev pub invariant-loop-number : goal.invariant-loop-number
invariant-loop-number l = record {
  size : length l.known ≡ 256;
  each : (n : ℕ) → n < l.number → get_or l.known n false ≡ is_some (node_of l.manager.nodes n);
}
