use Rattle.std.proofs.Common.{◌≡◌, ◌++◌, drop}
use Rattle.cop_written.specs.Texts.{row_lines, pdo_text}
use Rattle.cop_written.proofs.pdos.pdo_text.Given as goal

abbrev pub invariant-loop-row : goal.invariant-loop-row
invariant-loop-row l = l.text.items ++ row_lines (drop l.row-index l.rows) ≡ pdo_text l.rows
