-- One node as its manager sees it.
use Rattle.std.specs.Prelude.{ℕ, suc, ◌+◌, Bool, true, false, List, slice_get, ◌==◌, nat_le, Option, Some, None, if◌then◌else◌}
use Rattle.cop_dict.specs.declared.abort.Abort.TheVariants as aborts
use Rattle.cop_dict.specs.Codes.{code_of}
use Rattle.cop_sdo.specs.declared.address.Address.{Address}
use Rattle.cop_sdo.specs.Message.{Message}
use Rattle.cop_sdo.specs.Reply.{Reply, Confirm, Abort, reply_of}
use Rattle.cop_sdo.specs.Answers.{abort_body}
use Rattle.cop_sdo.specs.Client.{request, give_body, same_address}
use Rattle.cop_setup.specs.declared.setting.Setting.{Setting}
use Rattle.cop_boot.specs.declared.«end».End.{End}
use Rattle.cop_boot.specs.declared.«end».End.TheVariants.{Ready, Aborted, Silent, Restarting}
use Rattle.cop_boot.specs.declared.«end».Phase.{Phase}
use Rattle.cop_boot.specs.declared.«end».Phase.TheVariants.{Waiting, Sending, Over}
use Rattle.cop_setup.specs.Settings.{bytes_of}
use Rattle.cop_boot.specs.Settings.{address_of}

-- what a manager knows of a node: its settings, for how many ticks its boot-up is awaited, how many boot-ups began the settings, and
-- how far they are
pub record Node : Type 0 where
  pub number : ℕ
  pub settings : List Setting
  pub limit : ℕ
  pub boots : ℕ
  pub phase : Phase

-- a node after something came, and the frame that is sent to it then
pub record Moved : Type 0 where
  pub node : Node
  pub frame : Option Message

abbrev pub stays : Node → Moved
stays node = record { node = node; frame = None }

abbrev pub over : Node → End → Option Message → Moved
over node e frame = record { node = record node { phase = Over e }; frame = frame }

-- the frame of a setting
abbrev pub request_of : ℕ → Setting → Message
request_of number s = request number (give_body (address_of s) (bytes_of s))

-- so many settings are confirmed: the next is sent, or the node is ready
abbrev pub sends : Node → ℕ → ℕ → Option Setting → Moved
sends node done now None = over node Ready None
sends node done now (Some s) = record { node = record node { phase = Sending done now }; frame = Some (request_of node.number s) }

abbrev pub goes_on : Node → ℕ → ℕ → Moved
goes_on node done now = sends node done now (slice_get node.settings done)

-- an end that stands, whatever comes
abbrev pub is_final : Phase → Bool
is_final (Over Ready) = false
is_final (Over e) = true
is_final (Waiting since) = false
is_final (Sending done since) = false

-- a boot-up begins the settings anew; the fourth ends the node
abbrev pub booted : Node → ℕ → Moved
booted node now =
    if is_final node.phase then stays node
    else if node.boots == 3 then over node (Restarting node.number) None
    else goes_on (record node { boots = suc node.boots }) 0 now

-- the code by which an answer to a setting ends the node: the server's abort, or the client's where no confirmation of that
-- setting came
abbrev pub refusal : Address → Reply → Option ℕ
refusal at (Confirm other) = if same_address at other then None else Some (code_of aborts.Command)
refusal at (Abort code) = Some code
refusal at reply = Some (code_of aborts.Command)

-- the client aborts itself, unless the server did
abbrev pub own_abort : ℕ → Address → Reply → Option Message
own_abort number at (Abort code) = None
own_abort number at reply = Some (request number (abort_body at (code_of aborts.Command)))

abbrev pub ended_at : ℕ → Setting → ℕ → End
ended_at number s code = Aborted number s.index s.sub code

abbrev pub judged : Node → ℕ → ℕ → Setting → Reply → Option ℕ → Moved
judged node done now s reply None = goes_on node (suc done) now
judged node done now s reply (Some code) = over node (ended_at node.number s code) (own_abort node.number (address_of s) reply)

abbrev pub answer_to : Node → ℕ → ℕ → List ℕ → Option Setting → Moved
answer_to node done now body None = stays node
answer_to node done now body (Some s) = judged node done now s (reply_of body) (refusal (address_of s) (reply_of body))

-- an answer counts while a setting is out
abbrev pub answered_in : Node → ℕ → List ℕ → Phase → Moved
answered_in node now body (Sending done since) = answer_to node done now body (slice_get node.settings done)
answered_in node now body (Waiting since) = stays node
answered_in node now body (Over e) = stays node

abbrev pub answered : Node → ℕ → List ℕ → Moved
answered node now body = answered_in node now body node.phase

-- the frame by which the client gives up a setting
abbrev pub gives_up : ℕ → Option Setting → Option Message
gives_up number None = None
gives_up number (Some s) = Some (request number (abort_body (address_of s) (code_of aborts.TimeOut)))

-- a boot-up is awaited for the ticks of the node's limit, an answer for 4,000,000 (1 s)
abbrev pub awaited_in : Node → ℕ → Phase → Moved
awaited_in node now (Waiting since) = if nat_le (since + node.limit) now then over node (Silent node.number) None else stays node
awaited_in node now (Sending done since) =
    if nat_le (since + 4000000) now then over node (Silent node.number) (gives_up node.number (slice_get node.settings done)) else stays node
awaited_in node now (Over e) = stays node

-- a moment is reached
abbrev pub awaited : Node → ℕ → Moved
awaited node now = awaited_in node now node.phase
