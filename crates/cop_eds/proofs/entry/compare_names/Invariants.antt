use Rattle.std.proofs.Common.{◌≡◌, length}
use Rattle.std.specs.Ordering.{nat_cmp}
use Rattle.std.specs.Cmp.Lexicographic.{slice_cmp}
use Rattle.std.specs.Str.{str_to_ascii_lowercase}
use Rattle.cop_eds.proofs.entry.compare_names.Given as goal

abbrev pub invariant-loop-a : goal.invariant-loop-a
invariant-loop-a l =
    slice_cmp nat_cmp (str_to_ascii_lowercase l.left) (str_to_ascii_lowercase l.right)
    ≡ slice_cmp nat_cmp (str_to_ascii_lowercase l.initial.left) (str_to_ascii_lowercase l.initial.right)

abbrev pub decreases-loop-a : goal.decreases-loop-a
decreases-loop-a l = length l.left
