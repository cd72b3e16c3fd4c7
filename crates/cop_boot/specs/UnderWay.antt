-- A boot by turns that is under way.
use Rattle.std.specs.Prelude.{◌≡◌, ◌+◌, ◌≤◌, ℕ, List, map, vec_len, vec_capacity}
use Rattle.cop_boot.specs.declared.schedule.Boot.{Boot}
use Rattle.cop_boot.specs.declared.turn.Turn.{Turn}
use Rattle.cop_boot.specs.Manager.{Managing, open_nodes}
use Rattle.cop_boot.specs.Device.{Attached}
use Rattle.cop_boot.specs.Schedule.{Boots}
use Rattle.cop_boot.specs.Bus.{IsBus, KnowsNodes, KeepsOthers, world_at}

-- these turns, taken one after the other, made this of a manager and of devices, and these frames are on the way
pub record IsUnderWay (m : Managing) (devices : List Attached) (turns : List Turn) (later : Managing) (after : List Attached) (boot : Boot) : Type 0 where
  pub bus : IsBus boot.bus
  pub knows : KnowsNodes later.nodes boot.numbers
  pub boots : Boots m devices turns (world_at later boot.bus after)
  pub names : map (λ node. node.number) later.nodes ≡ map (λ node. node.number) m.nodes
  pub others : KeepsOthers m devices after

-- there is room for what so many turns can send
pub record HasRoomFor (turns : ℕ) (m : Managing) (boot : Boot) : Type 0 where
  pub sent : vec_len boot.bus.sent + turns + open_nodes m.nodes ≤ vec_capacity boot.bus.sent
  pub answers : vec_len boot.bus.answers + turns ≤ vec_capacity boot.bus.answers
