use Rattle.std.proofs.Common.{◌≡◌, ◌++◌, drop, Some}
use Rattle.std.specs.Prelude.{slice_get}
use Rattle.cop_eds.specs.declared.line.Line.{Line}
use Rattle.cop_eds.specs.Rows.{rows_of}
use Rattle.cop_eds.specs.Edits.{newline_of}
use Rattle.cop_dcf.specs.Pieces.{pieces_of}
use Rattle.cop_dcf.specs.Runs.{IsRun, run_of, IsBehind}
use Rattle.cop_dcf.proofs.writing.put_lines.Given as goal

abbrev pub invariant-loop-at : goal.invariant-loop-at
invariant-loop-at l = record {
  run : IsRun l.eds l.run;
  behind : (line : Line) → slice_get l.lines l.at ≡ Some line → IsBehind l.run line;
  done : (l.text.items ++ run_of l.eds l.run) ++ pieces_of l.eds (newline_of (rows_of l.eds)) l.table (drop l.at l.lines)
      ≡ l.initial.text.items ++ pieces_of l.eds (newline_of (rows_of l.eds)) l.table l.lines;
}
