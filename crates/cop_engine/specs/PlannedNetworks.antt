-- A network and what the planner answers for it.
use Rattle.std.specs.Prelude.{◌≡◌, length, List, Ok, Err, IfSome}
use Rattle.cop_rows.specs.Nodes.{NodeLists}
use Rattle.cop_rows.specs.declared.pdo_table.PdoRow.{PdoRow}
use Rattle.cop_net.specs.declared.faults.PlanFault.{PlanFault}
use Rattle.cop_net.specs.Devices.{File}
use Rattle.cop_net.specs.Faults.{refusal}
use Rattle.cop_net.specs.Network.{Net, IsNetwork, accepted, network_of}
use Rattle.cop_plan.specs.declared.assigning.Outcome.{Outcome}
use Rattle.cop_plan.specs.declared.choices.Asked.{Asked}
use Rattle.cop_plan.specs.Plans.{IsOutcome, IsChosenBy}

-- a network, and what is answered for it
pub record Planning : Type 0 where
  pub net : Net
  pub outcome : Outcome

-- the planner answers so for the network
pub record IsPlanning (p : Planning) : Type 0 where
  pub network : IsNetwork p.net
  pub planned : IsOutcome p.net.equipment.rates p.net.set (length p.net.rows) p.outcome

-- the network that tables and EDS files make, and what the planner answers for what is asked of it
pub record IsPlanningOf (asked : Asked) (nodes : NodeLists) (rows : List PdoRow) (eds : List File) (p : Planning) : Type 0 where
  pub made : network_of asked.rates nodes rows eds ≡ Ok (accepted p.net)
  pub nodes_are : p.net.nodes ≡ nodes
  pub rows_are : p.net.rows ≡ rows
  pub is : IsPlanning p
  pub chosen : IsChosenBy asked.choice p.outcome

-- why tables and EDS files make no network: the first rule that they break, if it is not want of memory
abbrev pub ExplainsMaking : Asked → NodeLists → List PdoRow → List File → PlanFault → Type 0
ExplainsMaking asked nodes rows eds fault = IfSome (refusal fault) (λ r. network_of asked.rates nodes rows eds ≡ Err r)
