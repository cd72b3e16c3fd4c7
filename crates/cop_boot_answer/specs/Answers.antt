-- What is said of a boot, and its text.
use Rattle.std.specs.Prelude.{ℕ, ◌-◌, ◌^◌, Bool, false, true, List, [], ◌++◌, codes, decimal, Option, Some, None}
use Rattle.std.specs.List.{flat_map}
use Rattle.std.specs.Fmt.{digits, padded_integral, format_spec}
use Rattle.cop_boot_answer.specs.declared.states.State.{State}
use Rattle.cop_boot_answer.specs.declared.states.State.TheVariants.{Ready, Undecided, Unfinished, Silent, Restarting, Aborted, Differs, Restored, Unasked, AsPlanned, Other, Operational, Unheard, Late}
use Rattle.cop_boot_answer.specs.declared.states.Detail.{Detail}
use Rattle.cop_boot_answer.specs.declared.answers.NodeLine.{NodeLine}

-- the answer of a boot: the state of each node, whether the nodes were started if that is said, and what heartbeats said after the start
pub record Told : Type 0 where
  pub nodes : List NodeLine
  pub started : Option Bool
  pub heartbeats : List NodeLine

-- nothing is told
abbrev pub nothing_told : Told
nothing_told = record { nodes = []; started = None; heartbeats = [] }

-- at least so many hexadecimal digits in upper case, filled with zeros
abbrev pub hexadecimal_of : ℕ → ℕ → List ℕ
hexadecimal_of width n = padded_integral (format_spec 32 0 4 width (2 ^ 64 - 1)) false [] (digits 16 true n)

-- the word of a state
abbrev pub word_of : State → List ℕ
word_of Ready = codes "ready"
word_of Undecided = codes "undecided"
word_of Unfinished = codes "unfinished"
word_of Silent = codes "silent"
word_of Restarting = codes "restarting"
word_of (Aborted at code) = codes "aborted"
word_of (Differs at found) = codes "differs"
word_of Restored = codes "restored"
word_of Unasked = codes "unasked"
word_of AsPlanned = codes "as planned"
word_of (Other at found) = codes "other"
word_of Operational = codes "operational"
word_of Unheard = codes "unheard"
word_of Late = codes "late"

-- the object that it speaks of, with the value that was found there or the code of an abort
abbrev pub detail_of : State → Option Detail
detail_of Ready = None
detail_of Undecided = None
detail_of Unfinished = None
detail_of Silent = None
detail_of Restarting = None
detail_of (Aborted at code) = Some (record { at = at; value = code })
detail_of (Differs at found) = Some (record { at = at; value = found })
detail_of Restored = None
detail_of Unasked = None
detail_of AsPlanned = None
detail_of (Other at found) = Some (record { at = at; value = found })
detail_of Operational = None
detail_of Unheard = None
detail_of Late = None

-- index, sub and value of an object, in hexadecimal
abbrev pub detail_said : Option Detail → List ℕ
detail_said None = codes "\n"
detail_said (Some d) = codes " " ++ (hexadecimal_of 4 d.at.index ++ (codes " " ++ (hexadecimal_of 2 d.at.sub ++ (codes " " ++ (hexadecimal_of 8 d.value ++ codes "\n")))))

-- the line of a node
abbrev pub line_of : NodeLine → List ℕ
line_of line = codes "node " ++ (decimal line.node ++ (codes " " ++ (word_of line.state ++ detail_said (detail_of line.state))))

-- the line that says whether the nodes were started
abbrev pub started_said : Option Bool → List ℕ
started_said None = []
started_said (Some true) = codes "started\n"
started_said (Some false) = codes "not started\n"

-- a line for each node, whether they were started, and a line for each heartbeat
abbrev pub text_of : Told → List ℕ
text_of told = flat_map line_of told.nodes ++ (started_said told.started ++ flat_map line_of told.heartbeats)
