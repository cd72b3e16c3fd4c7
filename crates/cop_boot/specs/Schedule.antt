-- Boots by turns, over a channel each way for each node.
use Rattle.std.specs.Prelude.{◌≡◌, ℕ, ◌+◌, Bool, ◌||◌, List, [], ◌∷◌, ◌++◌, map, filter, find, ◌==◌, Option, Some, None, option_to_list, if◌then◌else◌}
use Rattle.cop_sdo.specs.Message.{Message}
use Rattle.cop_boot.specs.declared.turn.Turn.{Turn}
use Rattle.cop_boot.specs.declared.turn.Turn.TheVariants.{ToNode, FromNode, Moment}
use Rattle.cop_boot.specs.Node.{Node}
use Rattle.cop_boot.specs.Manager.{Managing, Managed, heard, passed, begun_at}
use Rattle.cop_boot.specs.Device.{Attached, Responded, MayRespond}

-- the channels of a node, first in first out, and its device, if it has one
pub record Line : Type 0 where
  pub number : ℕ
  pub to : List Message
  pub from : List Message
  pub device : Option Attached

pub record World : Type 0 where
  pub manager : Managing
  pub lines : List Line

abbrev pub line_of : List Line → ℕ → Option Line
line_of lines number = find (λ line. line.number == number) lines

-- an SDO frame goes to its node, and an NMT frame to all
abbrev pub is_for : ℕ → Message → Bool
is_for number frame = (frame.id == 0) || (frame.id == 0x600 + number)

abbrev pub takes : List Message → Line → Line
takes frames line = record line { to = line.to ++ filter (is_for line.number) frames }

abbrev pub posted : Managed → List Line → World
posted m lines = record { manager = m.manager; lines = map (takes m.frames) lines }

abbrev pub with_line : Line → List Line → List Line
with_line new lines = map (λ line. if line.number == new.number then new else line) lines

-- a line after the front frame to its node was delivered, where there is one and a device
abbrev pub DeliveredBy : Line → Option Attached → List Message → Line → Type 0
DeliveredBy line (Some device) (frame ∷ rest) next =
    (responded : Responded) × MayRespond device frame responded
    × (next ≡ record line { to = rest; from = line.from ++ option_to_list responded.answer; device = Some responded.device })
DeliveredBy line _ _ next = next ≡ line

-- the front frame of a channel to a node is delivered, where there is one and a device
abbrev pub Delivers : World → Line → Option Attached → List Message → World → Type 0
Delivers w line (Some device) (frame ∷ rest) next =
    (responded : Responded) × MayRespond device frame responded
    × (next ≡ record w { lines = with_line (record line { to = rest; from = line.from ++ option_to_list responded.answer; device = Some responded.device }) w.lines })
Delivers w line _ _ next = next ≡ w

abbrev pub DeliversTo : World → Option Line → World → Type 0
DeliversTo w (Some line) next = Delivers w line line.device line.to next
DeliversTo w None next = next ≡ w

-- the front frame of a channel from a node is heard by the manager
abbrev pub heard_on : World → Line → List Message → World
heard_on w line [] = w
heard_on w line (frame ∷ rest) = posted (heard w.manager frame w.manager.clock) (with_line (record line { from = rest }) w.lines)

abbrev pub heard_from : World → Option Line → World
heard_from w None = w
heard_from w (Some line) = heard_on w line line.from

-- one turn
abbrev pub Takes : World → Turn → World → Type 0
Takes w (ToNode number) next = DeliversTo w (line_of w.lines number) next
Takes w (FromNode number) next = next ≡ heard_from w (line_of w.lines number)
Takes w (Moment now) next = next ≡ posted (passed w.manager now) w.lines

abbrev pub TakesAll : World → List Turn → World → Type 0
TakesAll w [] next = next ≡ w
TakesAll w (turn ∷ turns) next = (between : World) × Takes w turn between × TakesAll between turns next

-- the frames that the manager sends when it hears the front frame of a channel
abbrev pub answered_on : World → List Message → List Message
answered_on w [] = []
answered_on w (frame ∷ rest) = (heard w.manager frame w.manager.clock).frames

abbrev pub answered_from : World → Option Line → List Message
answered_from w None = []
answered_from w (Some line) = answered_on w line.from

-- the frames that the manager sends at a turn
abbrev pub sent_at : World → Turn → List Message
sent_at w (ToNode number) = []
sent_at w (FromNode number) = answered_from w (line_of w.lines number)
sent_at w (Moment now) = (passed w.manager now).frames

-- and those that it sends at one turn after the other
abbrev pub sent_over : (turns : List Turn) (w next : World) → TakesAll w turns next → List Message
sent_over [] w next takes = []
sent_over (turn ∷ turns) w next (between, takes, more) = sent_at w turn ++ sent_over turns between next more

-- a line of a node with empty channels, and the device that has its number
abbrev pub line_with : List Attached → Node → Line
line_with devices node = record { number = node.number; to = []; from = []; device = find (λ device. device.number == node.number) devices }

-- the manager begins at 0, and its first frame goes to all
abbrev pub begins : Managing → List Attached → World
begins m devices = posted (begun_at m 0) (map (line_with devices) m.nodes)

-- a boot by turns
abbrev pub Boots : Managing → List Attached → List Turn → World → Type 0
Boots m devices turns w = TakesAll (begins m devices) turns w

-- all frames that the manager sends in a boot, in their order
abbrev pub sent_in : (m : Managing) (devices : List Attached) (turns : List Turn) (w : World) → Boots m devices turns w → List Message
sent_in m devices turns w boots = (begun_at m 0).frames ++ sent_over turns (begins m devices) w boots
