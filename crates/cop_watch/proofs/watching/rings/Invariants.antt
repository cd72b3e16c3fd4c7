use Rattle.std.proofs.Common.{◌≡◌, ℕ, []}
use Rattle.cop_watch.specs.Rings.{ring_of}
use Rattle.cop_watch.proofs.watching.rings.Given as goal

abbrev pub invariant-loop : goal.invariant-loop
invariant-loop l = (id : ℕ) → ring_of l.rings.items id ≡ []
