-- How the boot of a node ends, seen of all that came from it and of the moments.
use Rattle.std.specs.Prelude.{◌≡◌, ℕ, suc, ◌+◌, max, Bool, ◌&&◌, List, [], ◌∷◌, ◌++◌, length, reverse, slice_get, ◌==◌, nat_lt, nat_le, Option, Some, None, option_and_then, option_map, if◌then◌else◌}
use Rattle.std.specs.Option.{option_or}
use Rattle.cop_sdo.specs.Message.{Message}
use Rattle.cop_sdo.specs.Reply.{is_answer, reply_of}
use Rattle.cop_setup.specs.declared.setting.Setting.{Setting}
use Rattle.cop_boot.specs.declared.«end».End.{End}
use Rattle.cop_boot.specs.declared.«end».End.TheVariants.{Ready, Silent, Restarting}
use Rattle.cop_boot.specs.Settings.{address_of}
use Rattle.cop_boot.specs.Node.{refusal, ended_at}
use Rattle.cop_boot.specs.Manager.{Meeting, Heard, Moment, is_boot_up}

-- what came: a boot-up or an answer of the node, and when, or a moment that was handed in
pub data Event : Type 0 where
  BootUp : (at : ℕ) → Event
  Answer : (at : ℕ) (body : List ℕ) → Event
  Reached : (at : ℕ) → Event

-- of all frames the node's own boot-ups and answers
abbrev pub event_of : ℕ → ℕ → Message → List Event
event_of number clock frame =
    if is_boot_up number frame then BootUp clock ∷ [] else if is_answer number frame then Answer clock frame.body ∷ [] else []

-- what came from a node among all that came: each frame at the greatest moment that was handed in before it
abbrev pub events : ℕ → ℕ → List Meeting → List Event
events number clock [] = []
events number clock (Heard frame ∷ rest) = event_of number clock frame ++ events number clock rest
events number clock (Moment now ∷ rest) = Reached (max clock now) ∷ events number (max clock now) rest

-- A past is a list of events, the latest first.

-- how many boot-ups came
abbrev pub boots : List Event → ℕ
boots [] = 0
boots (BootUp at ∷ past) = suc (boots past)
boots (Answer at body ∷ past) = boots past
boots (Reached at ∷ past) = boots past

-- how many answers came since the last boot-up
abbrev pub answers : List Event → ℕ
answers [] = 0
answers (BootUp at ∷ past) = 0
answers (Answer at body ∷ past) = suc (answers past)
answers (Reached at ∷ past) = answers past

-- when the node was last heard, and 0 before
abbrev pub last_heard : List Event → ℕ
last_heard [] = 0
last_heard (BootUp at ∷ past) = at
last_heard (Answer at body ∷ past) = at
last_heard (Reached at ∷ past) = last_heard past

-- an answer that does not confirm the setting that is out
abbrev pub refused_end : ℕ → List ℕ → Option Setting → Option End
refused_end number body setting = option_and_then (λ s. option_map (ended_at number s) (refusal (address_of s) (reply_of body))) setting

-- nothing came in time: no boot-up in so many ticks, or no answer to the setting that is out in 4,000,000
abbrev pub is_too_late : ℕ → List Setting → List Event → ℕ → Bool
is_too_late limit settings past now =
    if boots past == 0 then nat_le limit now else nat_lt (answers past) (length settings) && nat_le (last_heard past + 4000000) now

-- what ends the boot of a node, other than that it is ready: the fourth boot-up, an answer that doesn't confirm the setting
-- that is out, and a moment at which a limit is reached. Since the last boot-up each answer has confirmed one setting, in turn.
abbrev pub ended_by : ℕ → ℕ → List Setting → List Event → Event → Option End
ended_by number limit settings past (BootUp at) = if boots past == 3 then Some (Restarting number) else None
ended_by number limit settings past (Answer at body) = if boots past == 0 then None else refused_end number body (slice_get settings (answers past))
ended_by number limit settings past (Reached at) = if is_too_late limit settings past at then Some (Silent number) else None

-- the first of these ends to come, after a past
abbrev pub first_end : ℕ → ℕ → List Setting → List Event → List Event → Option End
first_end number limit settings past [] = None
first_end number limit settings past (event ∷ rest) = option_or (ended_by number limit settings past event) (first_end number limit settings (event ∷ past) rest)

-- the node has booted, and as many answers came since then as it has settings
abbrev pub is_confirmed : List Setting → List Event → Bool
is_confirmed settings past = nat_lt 0 (boots past) && nat_le (length settings) (answers past)

abbrev pub ready_after : List Setting → List Event → Option End
ready_after settings past = if is_confirmed settings past then Some Ready else None

-- the end of the boot of a node whose boot-up is awaited for so many ticks
abbrev pub end_of : ℕ → ℕ → List Setting → List Event → Option End
end_of number limit settings events = option_or (first_end number limit settings [] events) (ready_after settings (reverse events))

-- the bodies of answers confirm the settings in turn, each by 60h (top bits 011) with its index and sub
abbrev pub ConfirmInTurn : List Setting → List Event → Type 0
ConfirmInTurn [] events = Unit {0}
ConfirmInTurn (s ∷ rest) [] = ⊥
ConfirmInTurn (s ∷ rest) (Answer at body ∷ events) = (refusal (address_of s) (reply_of body) ≡ None) × ConfirmInTurn rest events
ConfirmInTurn (s ∷ rest) (BootUp at ∷ events) = ConfirmInTurn (s ∷ rest) events
ConfirmInTurn (s ∷ rest) (Reached at ∷ events) = ConfirmInTurn (s ∷ rest) events

-- after the last boot-up each setting was confirmed in turn
pub record IsConfigured (settings : List Setting) (events : List Event) : Type 0 where
  pub before : List Event
  pub at : ℕ
  pub after : List Event
  pub split : events ≡ before ++ BootUp at ∷ after
  pub last : boots after ≡ 0
  pub confirmed : ConfirmInTurn settings after
