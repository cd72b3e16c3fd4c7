-- What a device does with a frame.
use Rattle.std.specs.Prelude.{◌≡◌, ℕ, ◌+◌, Bool, true, false, List, [], ◌∷◌, Option, Some, None}
use Rattle.cop_dict.specs.Find.{Entry}
use Rattle.cop_dict.specs.Dict.{initial, initial_communication}
use Rattle.cop_nmt.specs.declared.states.NodeState.{NodeState}
use Rattle.cop_nmt.specs.declared.states.NodeState.TheVariants.{PreOperational}
use Rattle.cop_nmt.specs.declared.states.Service.TheVariants.{Sdo}
use Rattle.cop_nmt.specs.declared.states.Effect.{Effect}
use Rattle.cop_nmt.specs.declared.states.Effect.TheVariants as effects
use Rattle.cop_nmt.specs.States.{command_in, obeyed, is_allowed}
use Rattle.cop_sdo.specs.Message.{Message}
use Rattle.cop_sdo.specs.Server.{idle}
use Rattle.cop_sdo.specs.Serve.{Served, Serving, MayServe}

-- a device as contracts see it
pub record Attached : Type 0 where
  pub number : ℕ
  pub state : NodeState
  pub dict : List Entry
  pub server : Serving

-- the state after a frame, by the NMT command that it carries for a node, and its effect
abbrev pub stepped_by : ℕ → NodeState → Message → NodeState × Effect
stepped_by number state frame =
    obeyed state (command_in number frame.id frame.len frame.body)

abbrev pub boot_up : ℕ → Message
boot_up number = record { id = 0x700 + number; body = 0 ∷ 0 ∷ 0 ∷ 0 ∷ 0 ∷ 0 ∷ 0 ∷ 0 ∷ []; len = 1 }

-- a device after a frame, and its answer
pub record Responded : Type 0 where
  pub device : Attached
  pub answer : Option Message

-- a reset leaves the server idle, and is answered by a boot-up
abbrev pub reset_to : Attached → List Entry → Responded
reset_to device dict = record {
  device = record device { state = PreOperational; dict = dict; server = record { node = device.server.node; state = idle } };
  answer = Some (boot_up device.number);
}

abbrev pub ignores : Attached → Responded
ignores device = record { device = device; answer = None }

abbrev pub served_as : Attached → Served → Responded
served_as device served = record { device = record device { dict = served.dict; server = served.server }; answer = served.answer }

-- SDO frames are answered where the state has the service, and then as the server may
abbrev pub MayServeIn : Bool → Attached → Message → Responded → Type 0
MayServeIn true device frame next = (served : Served) × MayServe device.server device.dict frame served × (next ≡ served_as device served)
MayServeIn false device frame next = next ≡ ignores device

abbrev pub MayRespondTo : NodeState × Effect → Attached → Message → Responded → Type 0
MayRespondTo (state, effects.ResetNode) device frame next = next ≡ reset_to device (initial device.dict)
MayRespondTo (state, effects.ResetCommunication) device frame next = next ≡ reset_to device (initial_communication device.dict)
MayRespondTo (state, effects.Changed) device frame next = next ≡ ignores (record device { state = state })
MayRespondTo (state, effects.Nothing) device frame next = MayServeIn (is_allowed state Sdo) (record device { state = state }) frame next

-- what a device may do with a frame
abbrev pub MayRespond : Attached → Message → Responded → Type 0
MayRespond device frame next = MayRespondTo (stepped_by device.number device.state frame) device frame next
