use Rattle.std.proofs.Common.{◌≡◌, ◌++◌, map, not, take, drop}
use Rattle.cop_cert.proofs.making.turn.Given as goal

abbrev pub invariant-loop-flag : goal.invariant-loop-flag
invariant-loop-flag l = l.flags ≡ map not (take l.flag-index l.fn.flags) ++ drop l.flag-index l.fn.flags
