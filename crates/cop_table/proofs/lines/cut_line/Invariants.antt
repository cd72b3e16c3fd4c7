use Rattle.std.proofs.Common.{◌≡◌, ◌+◌, ◌++◌, length, drop}
use Rattle.cop_table.specs.Plain.{is_comma}
use Rattle.cop_table.specs.Lines.{first_line, ends_of}
use Rattle.cop_table.proofs.lines.cut_line.Given as goal

abbrev pub invariant-loop-i : goal.invariant-loop-i
invariant-loop-i l = record {
  len : l.i + length (first_line (drop l.i l.text)) ≡ length (first_line l.text);
  ends : l.ends.items ++ ends_of is_comma l.i (first_line (drop l.i l.text)) ≡ ends_of is_comma 0 (first_line l.text);
}
