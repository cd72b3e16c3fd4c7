-- What the files say, from what each reading gives.
use Rattle.std.proofs.Common.{◌≡◌, ℕ, zero, suc, ◌<◌, ◌≤◌, List, [], ◌∷◌, length, slice_get, Some, Ok, Err, Result, IfSome, MatchResult, Bool, refl, sym, subst, arith}
use Rattle.cop_frame.specs.declared.rates.Rate.{Rate}
use Rattle.cop_rta.specs.declared.streams.Stream.{Stream}
use Rattle.cop_cert.proofs.CauseLemmas.{refusal_rules_out}
use Rattle.std.specs.Result.{IsErrAnd}
use Rattle.cop_rows.specs.Nodes.{NodeLists}
use Rattle.cop_rows.specs.declared.pdo_table.PdoRow.{PdoRow}
use Rattle.cop_rows.specs.NodeReading.{nodes_of}
use Rattle.cop_rows.specs.PdoReading.{pdos_of}
use Rattle.cop_net.specs.declared.faults.PlanFault.{PlanFault}
use Rattle.cop_net.specs.declared.faults.PlanFault.TheVariants.{Refused, Memory}
use Rattle.cop_net.specs.declared.faults.Table.TheVariants.{Nodes, Pdos}
use Rattle.cop_net.specs.Devices.{File}
use Rattle.cop_net.specs.Faults.{refusal}
use Rattle.cop_net.specs.Tables.{in_table}
use Rattle.cop_net.specs.Network.{Net, Accepted, IsNetwork, accepted, network_of}
use Rattle.cop_engine.specs.declared.faults.Fault.{Fault}
use Rattle.cop_plan.specs.declared.choices.Asked.{Asked}
use Rattle.cop_engine.specs.declared.plans.Files.{Files}
use Rattle.cop_cert.specs.declared.faults.CertFault.{CertFault}
use Rattle.cop_cert.specs.declared.faults.CertFault.TheVariants as cert
use Rattle.cop_cert.specs.declared.refusals.Refusal as refused
use Rattle.cop_cert.specs.Faults.{breach_of}
use Rattle.cop_cert.specs.Reading.{refusals_of}
use Rattle.cop_engine.specs.Checks.{AreChecked, AreLinesOf, RuleOut, IsCheckOf, ExplainsCheck}
use Rattle.cop_engine.specs.Faults.{fault_of, fault_of_refusals}
use Rattle.cop_engine.specs.Networks.{network_in, ExplainsNetwork, IsNetworkIn, IsPlannedNetwork}
use Rattle.cop_engine.specs.PlannedNetworks.{Planning, IsPlanningOf}
use Rattle.cop_engine.specs.Plans.{AreFilesFor, AreFilesOf}

-- what holds of the fault that is answered
pub err_is : {X : Type 0} (r : Result X Fault) (A : X → Type 0) (B : Fault → Type 0) (fault : Fault) → IsErrAnd r (λ f. f ≡ fault) → B fault → MatchResult r A B
err_is (Ok x) A B fault e b = absurd e
err_is (Err f) A B fault e b = subst B (sym e) b

-- what stands in a list stands below its length
at_inside : {A : Type 0} (xs : List A) (k : ℕ) (x : A) → slice_get xs k ≡ Some x → k < length xs
at_inside [] k x h = cc
at_inside (y ∷ ys) zero x h = omega arith
at_inside (y ∷ ys) (suc k) x h = let below = at_inside ys k x h in omega (arith, below)

module _ (wanted : List Rate) (nodes pdos : List ℕ) (files : List File) where
  -- the table of nodes is refused
  pub nodes_explain : (fault : PlanFault) → IfSome (refusal fault) (λ r. in_table Nodes (nodes_of nodes) ≡ Err r) → ExplainsNetwork wanted nodes pdos files (fault_of fault)
  unfolding network_in
  nodes_explain (Refused r) e = rw e refl
  nodes_explain Memory e = tt

  -- that of PDOs is
  pub pdos_explain : (n : NodeLists) (fault : PlanFault) → in_table Nodes (nodes_of nodes) ≡ Ok n → IfSome (refusal fault) (λ r. in_table Pdos (pdos_of pdos) ≡ Err r)
      → ExplainsNetwork wanted nodes pdos files (fault_of fault)
  unfolding network_in
  pdos_explain n (Refused r) read e = rw (read, e) refl
  pdos_explain n Memory read e = tt

  -- the network is
  pub network_explains : (n : NodeLists) (rows : List PdoRow) (fault : PlanFault) → in_table Nodes (nodes_of nodes) ≡ Ok n → in_table Pdos (pdos_of pdos) ≡ Ok rows
      → IfSome (refusal fault) (λ r. network_of wanted n rows files ≡ Err r) → ExplainsNetwork wanted nodes pdos files (fault_of fault)
  unfolding network_in
  network_explains n rows (Refused r) read also e = rw (read, also, e) refl
  network_explains n rows Memory read also e = tt

  -- the network that is made of the tables is the one that they and the files say
  pub network_is : (n : NodeLists) (rows : List PdoRow) (network : Net) → in_table Nodes (nodes_of nodes) ≡ Ok n → in_table Pdos (pdos_of pdos) ≡ Ok rows
      → network_of wanted n rows files ≡ Ok (accepted network) → network.nodes ≡ n → network.rows ≡ rows → IsNetwork network → IsNetworkIn wanted nodes pdos files network
  network_is n rows network read also e of same is = record { network = is; node_table = rw of read; pdo_table = rw same also; made = rw (of, same) e }

  pub network_read : (n : NodeLists) (rows : List PdoRow) (made : Accepted) → in_table Nodes (nodes_of nodes) ≡ Ok n → in_table Pdos (pdos_of pdos) ≡ Ok rows
      → network_of wanted n rows files ≡ Ok made → network_in wanted nodes pdos files ≡ Ok made
  unfolding network_in
  network_read n rows made read also e = rw (read, also, e) refl

  -- a fault of the network explains why there is no check
  pub of_network : (text : List ℕ) (fault : PlanFault) → ExplainsNetwork wanted nodes pdos files (fault_of fault) → ExplainsCheck wanted nodes pdos files text (fault_of fault)
  of_network text (Refused r) e = e
  of_network text Memory e = tt

  -- one of the refusal file does
  pub refusals_explain : (text : List ℕ) (made : Accepted) (fault : CertFault) → network_in wanted nodes pdos files ≡ Ok made → IfSome (breach_of fault) (λ b. refusals_of text ≡ Err b)
      → ExplainsCheck wanted nodes pdos files text (fault_of_refusals fault)
  refusals_explain text made (cert.Refused b) read e = (made, read, b, e, refl, refl)
  refusals_explain text made cert.Memory read e = tt

  -- what holds rules out
  rule_out : (streams : List Stream) (pdos : ℕ) (refusals : List refused.Refusal) (answers : List Bool) → pdos ≤ length streams
      → AreChecked streams pdos refusals answers (length refusals) → RuleOut streams pdos refusals answers
  rule_out streams pdos refusals answers count checked k r here holds =
      refusal_rules_out streams pdos r count ((checked.each k (at_inside refusals k r here) r here).0 holds)

  -- the check of the network's refusals is that of the files
  pub check_is : (network : Net) (text lines : List ℕ) (refusals : List refused.Refusal) (all : Bool) → IsNetworkIn wanted nodes pdos files network → refusals_of text ≡ Ok refusals
      → AreLinesOf network.set (length network.rows) refusals lines all → IsCheckOf wanted nodes pdos files text lines all
  check_is network text lines refusals all is told answered = record {
    net = network;
    said = is;
    refusals = refusals;
    refusals_are = told;
    answered = answered;
    rules_out = rule_out network.set (length network.rows) refusals answered.answers is.network.streams.count answered.checked;
  }

module _ (asked : Asked) (nodes pdos : List ℕ) (files : List File) (n : NodeLists) (rows : List PdoRow) (p : Planning) where
  -- what is answered for the network of the tables that were read is the plan of the files
  unfoldable pub planning_is : in_table Nodes (nodes_of nodes) ≡ Ok n → in_table Pdos (pdos_of pdos) ≡ Ok rows → IsPlanningOf asked n rows files p → IsPlannedNetwork asked nodes pdos files p.outcome
  planning_is read also i = record { net = p.net; said = network_is asked.rates nodes pdos files n rows p.net read also i.made i.nodes_are i.rows_are i.is.network; planned = i.is.planned; chosen = i.chosen }

  -- its files are those of the files
  pub files_are : (made : Files) → in_table Nodes (nodes_of nodes) ≡ Ok n → in_table Pdos (pdos_of pdos) ≡ Ok rows → IsPlanningOf asked n rows files p → AreFilesFor files p.net p.outcome made
      → AreFilesOf asked nodes pdos files made
  unfolding planning_is
  files_are made read also i f = record { outcome = p.outcome; network = planning_is read also i; written = f }
