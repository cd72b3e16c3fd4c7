-- The DCF files of a plan are read again.
use Rattle.std.proofs.Common.{◌≡◌, ◌≤◌, ◌*◌, ◌==◌, ℕ, Bool, true, false, cond, List, [], ◌∷◌, length, find, option_map, Option, Some, None, Result, Ok, Err, All, refl, sym, ap, ◌∙◌, subst}
use Rattle.std.specs.Option.{option_map_or}
use Rattle.cop_frame.specs.declared.rates.Rate.{Rate}
use Rattle.std.proofs.lemmas.List.Elements.{All-head, All-tail}
use Rattle.cop_eds.proofs.EditLemmas.{sections_equal, found_test}
use Rattle.cop_rows.specs.declared.node_table.DeviceRow.{DeviceRow}
use Rattle.cop_rows.specs.NodeReading.{nodes_of}
use Rattle.cop_rows.specs.declared.refusals.Refusal as rows
use Rattle.cop_net.specs.declared.faults.Table.{Table}
use Rattle.cop_net.specs.declared.faults.Table.TheVariants.{Nodes}
use Rattle.cop_net.specs.Devices.{File}
use Rattle.cop_net.specs.Tables.{in_table}
use Rattle.cop_net.specs.Network.{Net}
use Rattle.cop_plan.specs.Values.{PlanValue}
use Rattle.cop_plan.specs.Plans.{IsPlan, IsOutcome}
use Rattle.cop_plan.specs.declared.assigning.Outcome.{Outcome}
use Rattle.cop_plan.specs.declared.assigning.Outcome.TheVariants.{Planned, Refused}
use Rattle.cop_dcf.specs.Settings.{node_settings}
use Rattle.cop_dcf.specs.Dcf.{dcf_of}
use Rattle.cop_dcf.specs.Planned.{IsReadAgain, IsNodeReadAgain}
use Rattle.cop_dcf.proofs.SettingsLemmas.{ids_small}
use Rattle.cop_dcf.proofs.DeviceLemmas.{node_round}
use Rattle.cop_engine.specs.Networks.{IsNetworkIn}
use Rattle.cop_engine.specs.Dcfs.{eds_text, dcf_file, device_row, dcf_at, IsFileReadAgain, AreReadAgain}
use Rattle.cop_engine.proofs.NameLemmas.{HasNames, devices_named}

table_ok : {A : Type 0} (table : Table) (r : Result A rows.Refusal) (x : A) → in_table table r ≡ Ok x → r ≡ Ok x
table_ok table (Ok y) x h = let same : y ≡ x = cc in ap Ok same
table_ok table (Err e) x h = cc

some_same : (a b : File) → Some a ≡ Some b → a ≡ b
some_same a b e = cc

node_of : (rows : List DeviceRow) (node : ℕ) (row : DeviceRow) → device_row rows node ≡ Some row → row.node ≡ node
node_of rows node row e = sections_equal row.node node (found_test (λ r. r.node == node) rows row e)

found_names : (rows : List DeviceRow) (p : DeviceRow → Bool) (row : DeviceRow) → All HasNames rows → find p rows ≡ Some row → HasNames row
found_names [] p row all e = cc
found_names (x ∷ xs) p row all e = by_test (p x) e (found_names xs p row (All-tail HasNames x xs all))
  where
    by_test : (b : Bool) → cond b (Some x) (find p xs) ≡ Some row → (find p xs ≡ Some row → HasNames row) → HasNames row
    by_test true k later = let same : x ≡ row = cc in subst HasNames same (All-head HasNames x xs all)
    by_test false k later = later k

module _ (wanted : List Rate) (nodes pdos : List ℕ) (files : List File) (net : Net) (is : IsNetworkIn wanted nodes pdos files net) (plan : PlanValue) (planned : IsPlan net.equipment.rates net.set (length net.rows) plan) where
  have_names : All HasNames net.nodes.devices
  have_names = devices_named nodes net.nodes (table_ok Nodes (nodes_of nodes) net.nodes is.node_table)

  again : (node : ℕ) (row : DeviceRow) → device_row net.nodes.devices node ≡ Some row → IsNodeReadAgain net files plan.ids plan.rate node row
  again node row own =
      let names : HasNames row = found_names net.nodes.devices (λ r. r.node == node) row have_names own in
      node_round net wanted files plan.ids plan.rate node row is.made is.network.nodes own (ids_small net.equipment.rates net.set (length net.rows) plan planned) names.0 names.1

  -- the file of a node
  of_row : (node : ℕ) (row : DeviceRow) (file : File) → device_row net.nodes.devices node ≡ Some row → dcf_file files net plan row ≡ file → IsFileReadAgain net plan node file
  of_row node row file own e =
      let h = again node row own in
      let node_is : row.node ≡ node = node_of net.nodes.devices node row own in
      let text : eds_text files row ≡ h.text = ap (λ o. option_map_or (λ t. t) o []) h.there in
      let whole : dcf_of h.text (node_settings net plan.ids node) node row.name plan.rate row.eds ≡ file.text =
      ap (λ n. dcf_of h.text (node_settings net plan.ids n) n row.name plan.rate row.eds) (sym node_is)
      ∙ ap (λ t. dcf_of t (node_settings net plan.ids row.node) row.node row.name plan.rate row.eds) (sym text) ∙ ap (λ (f : File). f.text) e in
      record {
        dict = h.dict;
        dictionary = h.dictionary;
        again = subst (λ (t : List ℕ). length t ≤ 4 * 1024 * 1024 → IsReadAgain t node h.dict (node_settings net plan.ids node)) whole h.again;
      }

  of_file : (node : ℕ) (file : File) → dcf_at files net plan node ≡ Some file → IsFileReadAgain net plan node file
  of_file node file h = by_row (device_row net.nodes.devices node) refl h
    where
      by_row : (o : Option DeviceRow) → device_row net.nodes.devices node ≡ o → option_map (dcf_file files net plan) o ≡ Some file → IsFileReadAgain net plan node file
      by_row None is k = cc
      by_row (Some row) is k = of_row node row file is (some_same (dcf_file files net plan row) file k)

pub are_read_again : (wanted : List Rate) (nodes pdos : List ℕ) (files : List File) (net : Net) → IsNetworkIn wanted nodes pdos files net
    → (outcome : Outcome) → IsOutcome net.equipment.rates net.set (length net.rows) outcome → AreReadAgain files net outcome
are_read_again wanted nodes pdos files net is (Planned plan) planned = of_file wanted nodes pdos files net is plan planned
are_read_again wanted nodes pdos files net is (Refused refusals) planned = tt
