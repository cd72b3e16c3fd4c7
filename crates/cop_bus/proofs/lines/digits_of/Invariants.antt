use Rattle.std.proofs.Common.{◌≡◌, ◌+◌, take, length}
use Rattle.hex.specs.Hex.{encode_upper}
use Rattle.cop_bus.proofs.lines.digits_of.Given as goal

abbrev pub invariant-loop-i : goal.invariant-loop-i
invariant-loop-i l = record {
  long : length l.digits ≡ 16;
  done : take (l.i + l.i) l.digits ≡ encode_upper (take l.i l.bytes);
}
