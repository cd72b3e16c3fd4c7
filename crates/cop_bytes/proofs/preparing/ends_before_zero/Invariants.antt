use Rattle.std.proofs.Common.{◌≡◌, ◌≤◌, ◌+◌, drop}
use Rattle.cop_bytes.specs.Bytes.{ends_before_zero}
use Rattle.cop_bytes.proofs.preparing.ends_before_zero.Given as goal

abbrev pub invariant-loop-b : goal.invariant-loop-b
invariant-loop-b l = (l.count + ends_before_zero l.fn.end (drop l.b-index l.text) ≡ ends_before_zero l.fn.end l.fn.text) × (l.count ≤ l.b-index)
