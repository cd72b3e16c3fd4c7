-- What a manager sends, and when it starts the nodes.
use Rattle.std.specs.Prelude.{◌≡◌, ℕ, List, [], ◌∷◌, ◌++◌, slice_get, Some, ◌⊎◌}
use Rattle.cop_sdo.specs.Message.{Message}
use Rattle.cop_sdo.specs.Answers.{abort_body}
use Rattle.cop_sdo.specs.Client.{request}
use Rattle.cop_setup.specs.declared.setting.Setting.{Setting}
use Rattle.cop_boot.specs.Settings.{address_of}
use Rattle.cop_boot.specs.Node.{Node, request_of}
use Rattle.cop_boot.specs.Manager.{Meeting, reset_all, start_all, node_of}
use Rattle.cop_boot.specs.Ends.{events, IsConfigured}

-- a frame to a node about one of its settings: the value, or that it is given up with a code
abbrev pub IsAbout : ℕ → List Setting → Message → Type 0
IsAbout number settings frame = (place : ℕ) × (s : Setting) × (slice_get settings place ≡ Some s)
    × ((frame ≡ request_of number s) ⊎ ((code : ℕ) × (frame ≡ request number (abort_body (address_of s) code))))

-- a frame to one of some nodes
abbrev pub IsForOne : List Node → Message → Type 0
IsForOne [] frame = ⊥
IsForOne (node ∷ nodes) frame = IsAbout node.number node.settings frame ⊎ IsForOne nodes frame

-- what a manager of some nodes may send: the reset of all, the start of all, and what is about the settings of its nodes
abbrev pub MaySend : List Node → Message → Type 0
MaySend nodes frame = (frame ≡ reset_all) ⊎ ((frame ≡ start_all) ⊎ IsForOne nodes frame)

-- by a beginning of what came, each node was configured
pub record WereConfigured (nodes : List Node) (came : List Meeting) : Type 0 where
  pub until : List Meeting
  pub later : List Meeting
  pub split : came ≡ until ++ later
  pub each : (number : ℕ) (node : Node) → node_of nodes number ≡ Some node → IsConfigured node.settings (events node.number 0 until)
