-- The network that the files say, and what the planner answers for it.
use Rattle.std.specs.Prelude.{◌≡◌, ℕ, List, length, Result, Ok, Err}
use Rattle.cop_frame.specs.declared.rates.Rate.{Rate}
use Rattle.cop_table.specs.Reading.{◌>>=◌}
use Rattle.cop_rows.specs.NodeReading.{nodes_of}
use Rattle.cop_rows.specs.PdoReading.{pdos_of}
use Rattle.cop_net.specs.declared.faults.Refusal.{Refusal}
use Rattle.cop_net.specs.declared.faults.Table.TheVariants.{Nodes, Pdos}
use Rattle.cop_net.specs.Devices.{File}
use Rattle.cop_net.specs.Tables.{in_table}
use Rattle.cop_net.specs.Network.{Net, Accepted, IsNetwork, accepted, network_of}
use Rattle.cop_plan.specs.declared.assigning.Outcome.{Outcome}
use Rattle.cop_plan.specs.declared.choices.Asked.{Asked}
use Rattle.cop_plan.specs.Plans.{IsOutcome, IsChosenBy}
use Rattle.cop_engine.specs.declared.faults.Fault.{Fault}
use Rattle.cop_engine.specs.declared.faults.Fault.TheVariants as faults

-- what the tables and the EDS files say of a network whose plan may have the rates that are wanted, or the first rule that they break: the
-- nodes before the PDOs, and these before the network
unfoldable pub network_in : List Rate → List ℕ → List ℕ → List File → Result Accepted Refusal
network_in wanted nodes pdos files = do
  nodes ← in_table Nodes (nodes_of nodes)
  rows ← in_table Pdos (pdos_of pdos)
  network_of wanted nodes rows files

-- why there is no network
abbrev pub ExplainsNetwork : List Rate → List ℕ → List ℕ → List File → Fault → Type 0
ExplainsNetwork wanted nodes pdos files (faults.Network r) = network_in wanted nodes pdos files ≡ Err r
ExplainsNetwork wanted nodes pdos files (faults.Refused number place) = ⊥
ExplainsNetwork wanted nodes pdos files faults.Simulation = ⊥
ExplainsNetwork wanted nodes pdos files (faults.File name) = ⊥
ExplainsNetwork wanted nodes pdos files faults.Usage = ⊥
ExplainsNetwork wanted nodes pdos files faults.Memory = Unit {0}

-- the network that the tables and the EDS files say
pub record IsNetworkIn (wanted : List Rate) (nodes pdos : List ℕ) (eds : List File) (net : Net) : Type 0 where
  pub network : IsNetwork net
  pub node_table : in_table Nodes (nodes_of nodes) ≡ Ok net.nodes
  pub pdo_table : in_table Pdos (pdos_of pdos) ≡ Ok net.rows
  pub made : network_of wanted net.nodes net.rows eds ≡ Ok (accepted net)

-- the network that the tables and the EDS files say, and what the planner answers for it
pub record IsPlannedNetwork (asked : Asked) (nodes pdos : List ℕ) (eds : List File) (outcome : Outcome) : Type 0 where
  pub net : Net
  pub said : IsNetworkIn asked.rates nodes pdos eds net
  pub planned : IsOutcome net.equipment.rates net.set (length net.rows) outcome
  pub chosen : IsChosenBy asked.choice outcome
