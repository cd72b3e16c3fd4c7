use Rattle.std.proofs.Common.{◌≡◌, ◌==◌, drop, find}
use Rattle.cop_net.specs.Fixed.{key_of}
use Rattle.cop_net.proofs.frames.first_at.Given as goal

abbrev pub invariant-loop-row : goal.invariant-loop-row
invariant-loop-row l = find (λ row. key_of row == l.place) l.frames ≡ find (λ row. key_of row == l.place) (drop l.row-index l.frames)
