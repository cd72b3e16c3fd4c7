-- What contracts see of a member, and when its client is where its phase says.
use Rattle.std.specs.Prelude.{◌≡◌, ◌≤◌, ◌+◌, ℕ, Bool, true, ◌&&◌, nat_le, All, List, [], ◌∷◌, slice_get, Option, Some, option_map}
use Rattle.std.specs.Global.{Vec}
use Rattle.std.specs.List.{list_all}
use Rattle.cop_frame.specs.declared.frames.Frame.{Frame}
use Rattle.cop_sdo.specs.Message.{message_of}
use Rattle.cop_sdo.specs.Client.{Calling, is_idle}
use Rattle.cop_sdo.specs.declared.task.Task.TheVariants as tasks
use Rattle.cop_setup.specs.declared.setting.Setting.{Setting}
use Rattle.cop_boot.specs.declared.«end».Phase.{Phase}
use Rattle.cop_boot.specs.declared.«end».Phase.TheVariants.{Waiting, Sending, Over}
use Rattle.cop_boot.specs.declared.member.Member.{Member}
use Rattle.cop_boot.specs.Settings.{address_of, is_short_value}
use Rattle.cop_boot.specs.Node.{Node, Moved}

abbrev pub seen : Member → Node
seen m = record { number = m.node; settings = m.settings.items; limit = m.limit; boots = m.boots; phase = m.phase }

-- a node whose boot has not begun, with its settings, whose boot-up is awaited for so many ticks
abbrev pub unheard_within : ℕ → ℕ × Vec Setting → Node
unheard_within limit (number, settings) = record { number = number; settings = settings.items; limit = limit; boots = 0; phase = Waiting 0 }

-- and for 20,000,000 ticks (5 s), where no other limit is given
abbrev pub unheard : ℕ × Vec Setting → Node
unheard entry = unheard_within 20000000 entry

-- a node has a number of 1 to 127, and short values
abbrev pub is_managed : ℕ → List Setting → Bool
is_managed number settings = (nat_le 1 number && nat_le number 127) && list_all is_short_value settings

-- a manager can be made of settings by nodes
abbrev pub CanManage : List (ℕ × Vec Setting) → Type 0
CanManage plan = All (λ e. is_managed e.0 e.1.items ≡ true) plan

-- the client waits on the setting that is out
abbrev pub IsAsking : List Setting → Calling → Phase → Type 0
IsAsking settings client (Sending done since) = (s : Setting) × (slice_get settings done ≡ Some s) × (client.asking ≡ record { task = tasks.Giving (address_of s); bytes = [] })
IsAsking settings client (Waiting since) = is_idle client.asking.task ≡ true
IsAsking settings client (Over e) = is_idle client.asking.task ≡ true

pub record IsMember (m : Member) : Type 0 where
  pub least : 1 ≤ m.node
  pub greatest : m.node ≤ 127
  pub boots : m.boots ≤ 3
  pub client : m.client.node ≡ m.node
  pub short : (j : ℕ) (s : Setting) → slice_get m.settings.items j ≡ Some s → is_short_value s ≡ true
  pub asks : IsAsking m.settings.items m.client m.phase

-- a call moved the node so, and gave this frame
abbrev pub Moves : Option Frame → Member → Moved → Type 0
Moves frame m moved = (let out : Moved = record { node = seen m; frame = option_map message_of frame } in out) ≡ moved

-- the limit of a phase is not over before a moment, where the boot-up is awaited for so many ticks
abbrev pub LastsIn : ℕ → ℕ → Phase → Type 0
LastsIn due limit (Waiting since) = due ≤ since + limit
LastsIn due limit (Sending done since) = due ≤ since + 4000000
LastsIn due limit (Over e) = Unit {0}

-- the limit of a node is not over before a moment
abbrev pub LastsTo : ℕ → Node → Type 0
LastsTo due node = LastsIn due node.limit node.phase

abbrev pub AllLast : ℕ → List Node → Type 0
AllLast due [] = Unit {0}
AllLast due (node ∷ nodes) = LastsTo due node × AllLast due nodes

-- no limit of a node is over before a moment, nor one of what is sent from now on
pub record IsDueFrom (due clock : ℕ) (nodes : List Node) : Type 0 where
  pub soon : due ≤ clock + 4000000
  pub last : AllLast due nodes
