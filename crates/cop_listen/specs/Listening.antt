-- Listening at a port, from the opening of the adapter to its closing: what is done there, and what a listener hears.
use Rattle.std.specs.Prelude.{◌≡◌, ◌⊎◌, ℕ, ◌-◌, Bool, true, false, List, [], ◌∷◌, ◌++◌, nat_le, Option}
use Rattle.std.specs.List.{AllByRecursion}
use Rattle.std.specs.Option.{option_map_or}
use Rattle.cop_frame.specs.declared.rates.Rate.{Rate}
use Rattle.cop_slcan.specs.Meaning.{Told}
use Rattle.cop_slcan.specs.Reading.{said_from, left_from}
use Rattle.cop_live.specs.Log.{ByteStep, ClockStep, Asked, DidAll}
use Rattle.cop_live.specs.declared.opening.Reply.{Reply}
use Rattle.cop_live.specs.Opening.{OpenedToListen, UnopenedToListen, OpenToListenFails}
use Rattle.cop_live.specs.Session.{Closed, CloseFails}
use Rattle.cop_heartbeats.specs.Attending.{attending_log, AttendFails}
use Rattle.cop_listen.specs.declared.listening.Listened.{Listened}
use Rattle.cop_listen.specs.declared.listening.Listened.TheVariants.{Ended, Unopened, Failed}

-- how a line that is heard at a moment leads a listener from one state to another
abbrev pub LineStep : Type 0 → Type 1
LineStep L = L → ℕ → Told → L → Type 0

-- how a listener says whether it is enough
abbrev pub Ending : Type 0 → Type 1
Ending L = L → Bool → Type 0

-- lines are heard at a moment in their order: each once, and nothing else
abbrev pub HearsAll : {L : Type 0} → LineStep L → ℕ → L → List Told → L → Type 0
HearsAll hears now l [] m = l ≡ m
HearsAll {L} hears now l (line ∷ lines) m = (k : L) × hears l now line k × HearsAll hears now k lines m

-- the bytes that are left of the last line, where bytes of a line had come before
abbrev pub left_by : List ℕ → List (ℕ × List ℕ) → List ℕ
left_by pending [] = pending
left_by pending ((now, bytes) ∷ turns) = left_by (left_from pending bytes) turns

-- in turns, each with its moment and its bytes, the lines that end there are heard at that moment, and it was not enough after any of them
abbrev pub HearsOn : {L : Type 0} → LineStep L → Ending L → List ℕ → L → List (ℕ × List ℕ) → L → Type 0
HearsOn hears ends pending l [] m = l ≡ m
HearsOn {L} hears ends pending l ((now, bytes) ∷ turns) m = (k : L) × HearsAll hears now l (said_from pending bytes) k × ends k false × HearsOn hears ends (left_from pending bytes) k turns m

-- so many ticks have passed, if a number is given
abbrev pub is_over : Option ℕ → ℕ → ℕ → Bool
is_over limit began now = option_map_or (λ ticks. nat_le ticks (now - began)) limit false

-- Turns are taken over an open adapter, in each of which bytes are read and the clock is asked then: nothing is written. The listener hears the
-- lines of all bytes that were read. At the last turn the time is over, or it is enough; at those before it was neither.
pub record Hears {P L : Type 0} (reads writes : ByteStep P) (asks : ClockStep P) (hears : LineStep L) (ends : Ending L) (limit : Option ℕ) (p : P) (l : L) (q : P) (m : L) : Type 0 where
  pub began : ℕ
  pub early : List (ℕ × List ℕ)
  pub last : ℕ × List ℕ
  pub before : L
  pub did : DidAll reads writes asks p (Asked began ∷ attending_log (early ++ last ∷ [])) q
  pub soon : AllByRecursion (λ turn. is_over limit began turn.0 ≡ false) early
  pub heard : HearsOn hears ends [] l early before
  pub heard_last : HearsAll hears last.0 before (said_from (left_by [] early) last.1) m
  pub ended : (is_over limit began last.0 ≡ true) ⊎ ends m true

-- it was listened over an open adapter, which was closed then
pub record HeardAndClosed {P L : Type 0} (reads writes : ByteStep P) (asks : ClockStep P) (hears : LineStep L) (ends : Ending L) (limit : Option ℕ) (p : P) (l : L) (q : P) (m : L) : Type 0 where
  pub listened : P
  pub hearing : Hears reads writes asks hears ends limit p l listened m
  pub closes : Closed reads writes listened q

-- the adapter was opened to listen, which gave this answer to listen only; it was listened, and the adapter was closed: no frame was sent
pub record IsHeard {P L : Type 0} (reads writes : ByteStep P) (asks : ClockStep P) (hears : LineStep L) (ends : Ending L) (rate : Rate) (limit : Option ℕ) (answer : Reply) (p : P) (l : L) (q : P) (m : L) : Type 0 where
  pub opened : P
  pub opens : OpenedToListen reads writes rate answer p opened
  pub heard : HeardAndClosed reads writes asks hears ends limit opened l q m

-- what came of listening
abbrev pub IsListened : {P L : Type 0} → ByteStep P → ByteStep P → ClockStep P → LineStep L → Ending L → Rate → Option ℕ → P → L → Listened → P → L → Type 0
IsListened reads writes asks hears ends rate limit p l (Ended answer) q m = IsHeard reads writes asks hears ends rate limit answer p l q m
IsListened reads writes asks hears ends rate limit p l (Unopened command) q m = UnopenedToListen reads writes rate command p q × (l ≡ m)
IsListened reads writes asks hears ends rate limit p l Failed q m = Unit {0}

-- what came of listening over an open adapter that gave this answer to listen only
abbrev pub HearsAndCloses : {P L : Type 0} → ByteStep P → ByteStep P → ClockStep P → LineStep L → Ending L → Reply → Option ℕ → P → L → Listened → P → L → Type 0
HearsAndCloses reads writes asks hears ends answer limit p l (Ended other) q m = (other ≡ answer) × HeardAndClosed reads writes asks hears ends limit p l q m
HearsAndCloses reads writes asks hears ends answer limit p l (Unopened command) q m = ⊥
HearsAndCloses reads writes asks hears ends answer limit p l Failed q m = Unit {0}

-- what holds where the port failed
abbrev pub if_failed : Listened → Type 0 → Type 0
if_failed (Ended answer) claim = Unit {0}
if_failed (Unopened command) claim = Unit {0}
if_failed Failed claim = claim

-- listening over an open adapter gave out, or it was not closed behind it: nothing was written but a part of what closes it
abbrev pub HearingFails : {P L : Type 0} → ByteStep P → ByteStep P → ClockStep P → ByteStep P → LineStep L → Ending L → Option ℕ → P → L → P → L → Type 0
HearingFails {P} reads writes asks fails hears ends limit p l q m =
    AttendFails reads writes asks fails p q ⊎ ((listened : P) × Hears reads writes asks hears ends limit p l listened m × CloseFails reads writes fails listened q)

-- the adapter was not opened to listen; or it was, and listening gave out
abbrev pub ListeningFails : {P L : Type 0} → ByteStep P → ByteStep P → ClockStep P → ByteStep P → LineStep L → Ending L → Rate → Option ℕ → P → L → P → L → Type 0
ListeningFails {P} reads writes asks fails hears ends rate limit p l q m =
    OpenToListenFails reads writes fails rate p q
    ⊎ ((answer : Reply) × (opened : P) × OpenedToListen reads writes rate answer p opened × HearingFails reads writes asks fails hears ends limit opened l q m)
