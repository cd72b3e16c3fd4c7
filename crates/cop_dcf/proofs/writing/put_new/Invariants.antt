use Rattle.std.proofs.Common.{◌≡◌, ◌++◌, take}
use Rattle.cop_dcf.specs.Pieces.{new_lines}
use Rattle.cop_dcf.proofs.writing.put_new.Given as goal

abbrev pub invariant-loop-key : goal.invariant-loop-key
invariant-loop-key l = l.text.items ≡ l.initial.text.items ++ new_lines l.eds l.newline (take l.key-index l.keys)
