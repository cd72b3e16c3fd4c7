use Rattle.std.proofs.Common.{◌≡◌, drop}
use Rattle.cop_dcf.specs.Pieces.{pair_follows}
use Rattle.cop_dcf.proofs.writing.pair_follows.Given as goal

abbrev pub invariant-loop-line : goal.invariant-loop-line
invariant-loop-line l = pair_follows (drop l.line-index l.lines) ≡ pair_follows l.lines
