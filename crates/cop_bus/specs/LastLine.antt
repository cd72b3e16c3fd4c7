-- The record that came last, as a line.
use Rattle.std.specs.Prelude.{ℕ, List, drop}
use Rattle.cop_bus.specs.declared.last_line.LastLine.{LastLine}

-- its bytes: those from its start on
abbrev pub text_of : LastLine → List ℕ
text_of line = drop line.start line.block
