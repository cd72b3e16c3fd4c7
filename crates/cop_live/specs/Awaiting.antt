-- A reset, and the boot-ups that are awaited after it.
use Rattle.std.specs.Prelude.{◌≡◌, ◌<◌, ◌≤◌, ◌⊎◌, ℕ, ◌-◌, Bool, true, false, List, [], ◌∷◌, Option}
use Rattle.std.specs.List.{list_all}
use Rattle.cop_slcan.specs.Reading.{said_from, left_from}
use Rattle.cop_live.specs.Log.{ByteStep, ClockStep, Asked, Sent, DidAll, GaveUp}
use Rattle.cop_live.specs.Nodes.{nobody, has_node}
use Rattle.cop_live.specs.Listening.{listening_log}
use Rattle.cop_live.specs.Session.{noted, reset_of}

-- each of some nodes is among those that booted up
abbrev pub have_booted : List Bool → List ℕ → Bool
have_booted booted nodes = list_all (has_node booted) nodes

-- the nodes that boot up in turns are put into a set of nodes, where bytes of a line had come before
abbrev pub booted_by : List ℕ → List Bool → List (ℕ × List ℕ) → List Bool
booted_by pending booted [] = booted
booted_by pending booted ((now, bytes) ∷ turns) = booted_by (left_from pending bytes) (noted booted (said_from pending bytes)) turns

-- turns in which boot-ups are awaited: each is taken while some node has not booted up, and sooner than so many ticks after a moment
abbrev pub AreAwaited : List ℕ → ℕ → ℕ → List ℕ → List Bool → List (ℕ × List ℕ) → Type 0
AreAwaited nodes limit began pending booted [] = Unit {0}
AreAwaited nodes limit began pending booted ((now, bytes) ∷ turns) =
    (have_booted booted nodes ≡ false) × ((now - began < limit) × AreAwaited nodes limit began (left_from pending bytes) (noted booted (said_from pending bytes)) turns)

-- the clock is asked, the communication of one node alone or of all is reset, and such turns are taken, in which these nodes boot up
pub record Awaits {P : Type 0} (reads writes : ByteStep P) (asks : ClockStep P) (only : Option ℕ) (nodes : List ℕ) (limit began : ℕ) (p : P) (turns : List (ℕ × List ℕ)) (booted : List Bool) (q : P) : Type 0 where
  pub did : DidAll reads writes asks p (Asked began ∷ Sent (reset_of only) ∷ listening_log turns) q
  pub each : AreAwaited nodes limit began [] nobody turns
  pub noted_are : booted ≡ booted_by [] nobody turns

-- boot-ups were awaited until each of some nodes had booted up, or until so many ticks had passed
abbrev pub Awoke : {P : Type 0} → ByteStep P → ByteStep P → ClockStep P → Option ℕ → List ℕ → ℕ → P → List Bool → P → Type 0
Awoke {P} reads writes asks only nodes limit p booted q =
    ((began : ℕ) × (turns : List (ℕ × List ℕ)) × Awaits reads writes asks only nodes limit began p turns booted q × (have_booted booted nodes ≡ true))
    ⊎ ((began : ℕ) × (turns : List (ℕ × List ℕ)) × (m : P) × (until : ℕ) × Awaits reads writes asks only nodes limit began p turns booted m × (have_booted booted nodes ≡ false)
    × asks m until q × (limit ≤ until - began))

-- the look at the clock, the reset, or the turns gave out in which boot-ups were awaited
abbrev pub AwaitFails : {P : Type 0} → ByteStep P → ByteStep P → ClockStep P → ByteStep P → Option ℕ → P → P → Type 0
AwaitFails reads writes asks fails only p q = (began : ℕ) × (turns : List (ℕ × List ℕ)) × GaveUp reads writes asks fails turns p (Asked began ∷ Sent (reset_of only) ∷ listening_log turns) q
