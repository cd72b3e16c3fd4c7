use Rattle.std.proofs.Common.{◌≡◌, ◌++◌, length, map}
use Rattle.cop_cert.specs.Format.{fields_of, lines}
use Rattle.cop_cert.proofs.writing.write_numbers.Given as goal

abbrev pub invariant-loop-rest : goal.invariant-loop-rest
invariant-loop-rest l = l.text.items ++ lines (map (fields_of l.fn.rate l.number l.what) l.rest) ≡ l.fn.text.items ++ lines (map (fields_of l.fn.rate l.number l.what) l.numbers)

abbrev pub decreases-loop-rest : goal.decreases-loop-rest
decreases-loop-rest l = length l.rest
