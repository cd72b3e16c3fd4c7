-- What is said of a boot whose line failed.
use Rattle.std.specs.Prelude.{ℕ, Bool, true, List, [], map, if◌then◌else◌, Option, Some, None}
use Rattle.cop_boot.specs.declared.«end».End.{End}
use Rattle.cop_boot.specs.Manager.{Managing, end_at}
use Rattle.cop_boot_answer.specs.declared.states.State.{State}
use Rattle.cop_boot_answer.specs.declared.states.State.TheVariants.{Ready, Unfinished}
use Rattle.cop_boot_answer.specs.declared.answers.NodeLine.{NodeLine}
use Rattle.cop_boot_answer.specs.Answers.{Told}
use Rattle.cop_commission.specs.Readings.{standing_after}

-- where a node stands by the end of its boot, if that has ended
abbrev pub unended_state : Option End → State
unended_state None = Unfinished
unended_state (Some e) = standing_after (Some e) Ready

-- the line of a node
abbrev pub unended_line : Managing → ℕ → NodeLine
unended_line m node = record { node = node; state = unended_state (end_at m.nodes node) }

-- the start is told of where it was sent
abbrev pub started_if : Bool → Option Bool
started_if started = if started then Some true else None

-- the line of each node by where its manager stood, and whether the start was sent
abbrev pub unended_answer : Managing → List ℕ → Bool → Told
unended_answer m nodes started = record { nodes = map (unended_line m) nodes; started = started_if started; heartbeats = [] }
