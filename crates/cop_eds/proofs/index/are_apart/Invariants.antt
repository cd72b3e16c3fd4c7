use Rattle.std.proofs.Common.{◌≡◌, false}
use Rattle.std.specs.List.{AllAdjacentBelow}
use Rattle.std.specs.Str.{bytes_eq}
use Rattle.cop_eds.specs.Index.{sort_key}
use Rattle.cop_eds.proofs.index.are_apart.Given as goal

abbrev pub invariant-loop-i : goal.invariant-loop-i
invariant-loop-i l = AllAdjacentBelow (λ x y. bytes_eq (sort_key x) (sort_key y) ≡ false) l.entries l.i
