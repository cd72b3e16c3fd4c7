-- Lines of an EDS text that stand in its DCF as they are, one behind the other.
use Rattle.std.specs.Prelude.{◌≡◌, ℕ, ◌≤◌, ◌<◌, List, ◌++◌, length, slice_range}
use Rattle.cop_eds.specs.declared.line.Line.{Line}
use Rattle.cop_dcf.specs.declared.writing.Run.{Run}

pub record IsRun (text : List ℕ) (run : Run) : Type 0 where
  pub rising : run.from ≤ run.to
  pub inside : run.to ≤ length text

abbrev pub run_of : List ℕ → Run → List ℕ
run_of text run = slice_range text run.from run.to

-- the line stands behind the run, where this has some
abbrev pub IsBehind : Run → Line → Type 0
IsBehind run line = run.from < run.to → line.from ≡ run.to

-- the run is longer by the line
pub record Extends (text : List ℕ) (run : Run) (line : Line) (longer : Run) : Type 0 where
  pub is : IsRun text longer
  pub to : longer.to ≡ line.next
  pub bytes : run_of text longer ≡ run_of text run ++ slice_range text line.from line.next
