-- Nodes whose heartbeats are awaited, and which of them are late.
use Rattle.std.specs.Prelude.{◌≡◌, ◌≤◌, ◌<◌, ℕ, ◌-◌, Bool, true, false, List, [], ◌∷◌, ◌++◌, replicate, slice_set, get_or, nat_le, Option, Some, None, if◌then◌else◌}
use Rattle.std.specs.List.{AllByRecursion, list_all}
use Rattle.cop_slcan.specs.Meaning.{Told, Heard, Done, Refused, Other}
use Rattle.cop_slcan.specs.Reading.{said_from, left_from}
use Rattle.cop_live.specs.Log.{ByteStep, ClockStep, Doing, Asked, Read, DidAll, GaveUp}
use Rattle.cop_live.specs.Nodes.{nobody, with_node, has_node}
use Rattle.cop_live.specs.Listening.{beat_of}
use Rattle.cop_live.specs.Session.{noting}
use Rattle.cop_heartbeats.specs.declared.attending.Awaited.{Awaited}
use Rattle.cop_heartbeats.specs.declared.attending.Heartbeats.{Heartbeats}
use Rattle.cop_heartbeats.specs.declared.attending.Presence.{Presence}
use Rattle.cop_heartbeats.specs.declared.attending.Presence.TheVariants.{Operational, Unheard, Late}

-- the moment at which a node last was operational is noted, by node
abbrev pub noted_at : ℕ → List ℕ → Option ℕ → List ℕ
noted_at now last None = last
noted_at now last (Some node) = slice_set last node now

-- a line tells of a heartbeat that says operational, and so do some
abbrev pub beat_at : ℕ → List ℕ → Told → List ℕ
beat_at now last (Heard frame) = noted_at now last (beat_of frame)
beat_at now last Done = last
beat_at now last Refused = last
beat_at now last Other = last

abbrev pub beats_in : ℕ → List ℕ → List Told → List ℕ
beats_in now last [] = last
beats_in now last (line ∷ rest) = beats_in now (beat_at now last line) rest

-- the nodes whose heartbeats said operational: that of a line, and those of some, beside others
abbrev pub heard_at : List Bool → Told → List Bool
heard_at heard (Heard frame) = noting heard (beat_of frame)
heard_at heard Done = heard
heard_at heard Refused = heard
heard_at heard Other = heard

abbrev pub heard_in : List Bool → List Told → List Bool
heard_in heard [] = heard
heard_in heard (line ∷ rest) = heard_in (heard_at heard line) rest

-- a node is late at a moment, where its time has passed since it last was operational; and so are some
abbrev pub late_if : ℕ → List ℕ → List Bool → Awaited → List Bool
late_if now last late one = if nat_le one.time (now - get_or last one.node 0) then with_node late one.node else late

abbrev pub late_at : ℕ → List ℕ → List Bool → List Awaited → List Bool
late_at now last late [] = late
late_at now last late (one ∷ rest) = late_at now last (late_if now last late one) rest

-- what was heard: of each node the moment at which it last was operational, or that of the beginning; the nodes that said so, and those that
-- were late; and the bytes of a line that is begun
pub record Hearing : Type 0 where
  pub last : List ℕ
  pub heard : List Bool
  pub late : List Bool
  pub reader : List ℕ

abbrev pub beginning : ℕ → Hearing
beginning began = record { last = replicate 256 began; heard = nobody; late = nobody; reader = [] }

-- a turn: bytes are read, and at the moment then they are heard, and it is looked who is late
abbrev pub turned : List Awaited → Hearing → ℕ → List ℕ → Hearing
turned awaited h now bytes = record {
  last = beats_in now h.last (said_from h.reader bytes);
  heard = heard_in h.heard (said_from h.reader bytes);
  late = late_at now (beats_in now h.last (said_from h.reader bytes)) h.late awaited;
  reader = left_from h.reader bytes;
}

abbrev pub attended : List Awaited → Hearing → List (ℕ × List ℕ) → Hearing
attended awaited h [] = h
attended awaited h ((now, bytes) ∷ turns) = attended awaited (turned awaited h now bytes) turns

-- what is done at the port in turns: nothing is written
abbrev pub attending_log : List (ℕ × List ℕ) → List Doing
attending_log [] = []
attending_log ((now, bytes) ∷ turns) = Read bytes ∷ Asked now ∷ attending_log turns

-- what the heartbeats of a node say of it: it was late; it said operational, and was not late; or its time had not passed yet
abbrev pub presence_of : Heartbeats → ℕ → Presence
presence_of heartbeats node = if has_node heartbeats.late node then Late else (if has_node heartbeats.heard node then Operational else Unheard)

abbrev pub is_operational : Presence → Bool
is_operational Operational = true
is_operational Unheard = false
is_operational Late = false

-- each of some nodes is operational
abbrev pub are_all_operational : Heartbeats → List Awaited → Bool
are_all_operational heartbeats awaited = list_all (λ one. is_operational (presence_of heartbeats one.node)) awaited

-- nodes are attended to: turns are taken, of which the last alone reaches the limit; these nodes said operational in them, and these were late
pub record Attended {P : Type 0} (reads writes : ByteStep P) (asks : ClockStep P) (awaited : List Awaited) (limit : ℕ) (p : P) (heartbeats : Heartbeats) (q : P) : Type 0 where
  pub began : ℕ
  pub early : List (ℕ × List ℕ)
  pub last : ℕ × List ℕ
  pub did : DidAll reads writes asks p (Asked began ∷ attending_log (early ++ last ∷ [])) q
  pub soon : AllByRecursion (λ turn. turn.0 - began < limit) early
  pub reaches : limit ≤ last.0 - began
  pub heard_are : heartbeats.heard ≡ (attended awaited (beginning began) (early ++ last ∷ [])).heard
  pub late_are : heartbeats.late ≡ (attended awaited (beginning began) (early ++ last ∷ [])).late

-- nodes were not attended to for so long: the look at the clock gave out, or the turns
abbrev pub AttendFails : {P : Type 0} → ByteStep P → ByteStep P → ClockStep P → ByteStep P → P → P → Type 0
AttendFails reads writes asks fails p q = (began : ℕ) × (turns : List (ℕ × List ℕ)) × GaveUp reads writes asks fails turns p (Asked began ∷ attending_log turns) q
