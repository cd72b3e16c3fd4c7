use Rattle.std.proofs.Common.{◌≡◌, ◌==◌, drop}
use Rattle.std.specs.Prelude.{filter}
use Rattle.cop_boot.proofs.bus.next_from.Given as goal

abbrev pub invariant-loop-place : goal.invariant-loop-place
invariant-loop-place l = filter (λ answer. answer.node == l.node) (drop l.place l.answers) ≡ filter (λ answer. answer.node == l.node) (drop l.from l.answers)
