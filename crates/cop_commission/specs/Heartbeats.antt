-- The nodes whose heartbeats are awaited after a start, and what is said of them.
use Rattle.std.specs.Prelude.{ℕ, ◌*◌, Bool, not, List, [], ◌∷◌, map, ◌==◌, if◌then◌else◌}
use Rattle.std.specs.List.{flat_map}
use Rattle.cop_net.specs.Heartbeats.{heartbeat_of}
use Rattle.cop_net.specs.Network.{Net}
use Rattle.cop_heartbeats.specs.declared.attending.Awaited.{Awaited}
use Rattle.cop_heartbeats.specs.declared.attending.Heartbeats.{Heartbeats}
use Rattle.cop_heartbeats.specs.declared.attending.Presence.{Presence}
use Rattle.cop_heartbeats.specs.declared.attending.Presence.TheVariants.{Operational, Unheard, Late}
use Rattle.cop_heartbeats.specs.Attending.{presence_of}
use Rattle.cop_boot_answer.specs.declared.states.State.{State}
use Rattle.cop_boot_answer.specs.declared.states.State.TheVariants as states
use Rattle.cop_boot_answer.specs.declared.answers.NodeLine.{NodeLine}

-- a node has a heartbeat, whose time is not 0
abbrev pub has_heartbeat : Net → ℕ → Bool
has_heartbeat net node = not (heartbeat_of net.nodes.frames node == 0)

-- it has to come within one and a half of its time: 6,000 ticks of 250 ns for each ms
abbrev pub awaited_from : Net → ℕ → Awaited
awaited_from net node = record { node = node; time = heartbeat_of net.nodes.frames node * 6000 }

abbrev pub awaited_at : Net → ℕ → List Awaited
awaited_at net node = if has_heartbeat net node then awaited_from net node ∷ [] else []

-- those of some nodes that have one
abbrev pub awaited_of : Net → List ℕ → List Awaited
awaited_of net nodes = flat_map (awaited_at net) nodes

-- what is said of a node: operational only if a heartbeat said so and none was overdue
abbrev pub presence_said : Presence → State
presence_said Operational = states.Operational
presence_said Unheard = states.Unheard
presence_said Late = states.Late

-- the line of each
abbrev pub beat_line : Heartbeats → Awaited → NodeLine
beat_line heartbeats one = record { node = one.node; state = presence_said (presence_of heartbeats one.node) }

abbrev pub attendance_lines : List Awaited → Heartbeats → List NodeLine
attendance_lines awaited heartbeats = map (beat_line heartbeats) awaited
