-- The devices of a network can be booted by each plan of it.
use Rattle.std.proofs.Common.{◌≡◌, ℕ, zero, suc, ◌<◌, ◌^◌, Bool, true, false, cond, ◌==◌, List, [], ◌∷◌, ◌++◌, map, get_or, is_some, unwrap_or, Option, Some, None, All, inl, inr, refl, sym, ap, subst, ◌∙◌, arith}
use Rattle.std.specs.List.{AllPairs}
use Rattle.std.proofs.lemmas.Bool.{eqb-true, ne_eqb}
use Rattle.std.proofs.lemmas.List.{get_or_default}
use Rattle.std.proofs.lemmas.List.Elements.{All-nil, All-cons, All-append, All-head, All-tail}
use Rattle.cop_frame.specs.declared.rates.Rate.{Rate}
use Rattle.cop_rta.specs.declared.streams.Stream.{Stream}
use Rattle.cop_rta.specs.Ranges.{IsPermitted}
use Rattle.cop_dict.specs.Find.{Entry}
use Rattle.cop_dict.specs.Dict.{initial}
use Rattle.cop_net.specs.Heartbeats.{heartbeat_of}
use Rattle.cop_net.specs.Network.{Net, IsNetwork}
use Rattle.cop_plan.specs.Values.{PlanValue}
use Rattle.cop_plan.specs.Plans.{IsPlan}
use Rattle.cop_setup.specs.declared.setting.Setting.{Setting}
use Rattle.cop_dcf.specs.Identifiers.{id_at}
use Rattle.cop_dcf.specs.Settings.{dictionary_of, asked_of, node_settings, settings_by}
use Rattle.cop_dcf.proofs.AskedLemmas.{node_taken}
use Rattle.cop_setup.specs.Settings.{IsFit}
use Rattle.cop_dcf.proofs.SettingsLemmas.{all_fit_in}
use Rattle.cop_boot.specs.Settings.{is_short_value}
use Rattle.cop_setup.specs.InTurn.{AcceptsInTurn}
use Rattle.cop_net.specs.Signals.{IsPdoId}
use Rattle.cop_boot.specs.Node.{Node}
use Rattle.cop_boot.specs.Manager.{node_of}
use Rattle.cop_boot.specs.Device.{Attached}
use Rattle.cop_boot.specs.Booted.{device_of, Apart, EachSetting, CanBeSet, CanBoot}
use Rattle.cop_boot.specs.NetworkBoot.{IsPlanOf}
use Rattle.cop_boot.proofs.NetworkAdmits.{network_admits, network_resets}
use Rattle.cop_boot.proofs.PlanInTurn.{plan_accepted}
use Rattle.cop_engine.specs.Boots.{nodes_to, device_nodes, managed, manager_of, dictionary_at, device_at}
use Rattle.cop_engine.proofs.BootLemmas.{IsUpTo, nodes_low, nodes_rise, short_of}

permitted_is : (pdos id : ℕ) → IsPermitted pdos id → IsPdoId id
permitted_is pdos id (inl first) = inl first
permitted_is pdos id (inr second) = inr second.1

-- the identifiers of a plan are those that a PDO may get
pub pdo_ids : (rates : List Rate) (streams : List Stream) (pdos : ℕ) (plan : PlanValue) → IsPlan rates streams pdos plan → All IsPdoId plan.ids
pdo_ids rates streams pdos plan h = λ k d lt.
    let inside : k < pdos = omega (arith, h.count) in
    let same : get_or plan.ids k d ≡ get_or plan.ids k 0 = get_or_default plan.ids k d 0 lt in
    rw same (permitted_is pdos (get_or plan.ids k 0) (h.passing.0.permitted k inside))

pdo_id_small : (id : ℕ) → IsPdoId id → id < 2 ^ 11
pdo_id_small id (inl first) = omega (arith, first.1)
pdo_id_small id (inr second) = omega (arith, second.1)

abbrev HasDevice : Net → ℕ → Type 0
HasDevice net node = is_some (dictionary_of net node) ≡ true

have_devices : (net : Net) (n : ℕ) → All (HasDevice net) (nodes_to net n)
unfolding nodes_to
have_devices net zero = All-nil (HasDevice net)
have_devices net (suc n) = by_test (is_some (dictionary_of net (suc n))) refl (have_devices net n)
  where
    by_test : (b : Bool) → is_some (dictionary_of net (suc n)) ≡ b → All (HasDevice net) (nodes_to net n) → All (HasDevice net) (nodes_to net n ++ cond b (suc n ∷ []) [])
    by_test true has h = All-append (HasDevice net) (nodes_to net n) (suc n ∷ []) h (All-cons (HasDevice net) (suc n) [] has (All-nil (HasDevice net)))
    by_test false has h = All-append (HasDevice net) (nodes_to net n) [] h (All-nil (HasDevice net))

module _ (net : Net) (is : IsNetwork net) (ids : List ℕ) (range : All IsPdoId ids) where
  -- what a manager or the devices have at a number
  found_node : (P : ℕ → Type 0) (xs : List ℕ) (number : ℕ) (node : Node) → All P xs → node_of (map (managed net ids) xs) number ≡ Some node → (node ≡ managed net ids number) × P number
  found_node P [] number node all h = absurd (cc)
  found_node P (x ∷ xs) number node all h = by_test (x == number) refl h (found_node P xs number node (All-tail P x xs all))
    where
      by_test : (b : Bool) → (x == number) ≡ b → cond b (Some (managed net ids x)) (node_of (map (managed net ids) xs) number) ≡ Some node
          → (node_of (map (managed net ids) xs) number ≡ Some node → (node ≡ managed net ids number) × P number) → (node ≡ managed net ids number) × P number
      by_test true t k later =
          let own : x ≡ number = eqb-true x number t in
          let same : node ≡ managed net ids x = cc in
          (same ∙ ap (managed net ids) own, subst P own (All-head P x xs all))
      by_test false t k later = later k

  found_device : (xs : List ℕ) (number : ℕ) (device : Attached) → device_of (map (device_at net) xs) number ≡ Some device → device ≡ device_at net number
  found_device [] number device h = absurd (cc)
  found_device (x ∷ xs) number device h = by_test (x == number) refl h (found_device xs number device)
    where
      by_test : (b : Bool) → (x == number) ≡ b → cond b (Some (device_at net x)) (device_of (map (device_at net) xs) number) ≡ Some device
          → (device_of (map (device_at net) xs) number ≡ Some device → device ≡ device_at net number) → device ≡ device_at net number
      by_test true t k later =
          let own : x ≡ number = eqb-true x number t in
          let same : device ≡ device_at net x = cc in
          same ∙ ap (device_at net) own
      by_test false t k later = later k

  absent : (xs : List ℕ) (number : ℕ) → All (λ x. number < x) xs → node_of (map (managed net ids) xs) number ≡ None
  absent [] number above = refl
  absent (x ∷ xs) number above =
      let low : number < x = All-head (λ x. number < x) x xs above in
      let no : (x == number) ≡ false = ne_eqb x number (λ e. omega (arith, low, e)) in
      rw no (absent xs number (All-tail (λ x. number < x) x xs above))

  are_apart : (xs : List ℕ) → AllPairs (λ node later. node < later) xs → Apart (map (managed net ids) xs)
  are_apart [] rise = tt
  are_apart (x ∷ xs) rise =
      (absent xs x (λ k d lt. rise 0 (suc k) d (omega arith) (omega arith)), are_apart xs (λ i j d lt inside. rise (suc i) (suc j) d (omega arith) (omega arith)))

  each_short : (settings : List Setting) → All IsFit settings → EachSetting (λ s. is_short_value s ≡ true) settings
  each_short [] h = tt
  each_short (s ∷ rest) h = (short_of net ids s (All-head IsFit s rest h), each_short rest (All-tail IsFit s rest h))

  small : All (λ id. id < 2 ^ 11) ids
  small = λ k d lt. pdo_id_small (get_or ids k d) (range k d lt)

  -- a device begins with the dictionary that its EDS file describes
  begins_as_built : (node : ℕ) (dict : List Entry) → dictionary_of net node ≡ Some dict → dictionary_at net node ≡ dict
  begins_as_built node dict its = ap (λ (o : Option (List Entry)). initial (unwrap_or o [])) its ∙ (network_resets net is ids range node dict its).0

  own_dictionary : (node : ℕ) → HasDevice net node → dictionary_of net node ≡ Some (dictionary_at net node)
  own_dictionary node has = by_dictionary (dictionary_of net node) refl has
    where
      by_dictionary : (o : Option (List Entry)) → dictionary_of net node ≡ o → is_some o ≡ true → dictionary_of net node ≡ Some (dictionary_at net node)
      by_dictionary None its h = absurd (cc)
      by_dictionary (Some dict) its h = its ∙ ap Some (sym (begins_as_built node dict its))

  can_be_set : (node : ℕ) → HasDevice net node → CanBeSet (node_settings net ids node) (dictionary_at net node)
  can_be_set node has = by_dictionary (dictionary_of net node) refl has
    where
      by_dictionary : (o : Option (List Entry)) → dictionary_of net node ≡ o → is_some o ≡ true → CanBeSet (node_settings net ids node) (dictionary_at net node)
      by_dictionary None its h = absurd (cc)
      by_dictionary (Some dict) its h =
          let resets = network_resets net is ids range node dict its in
          let begins : dictionary_at net node ≡ dict = begins_as_built node dict its in
          let time : ℕ = heartbeat_of net.nodes.frames node in
          let accepted : AcceptsInTurn dict (node_settings net ids node) =
          subst (λ (o : Option (List Entry)). AcceptsInTurn dict (settings_by (asked_of net node) (id_at net.rows ids node) time o)) (sym its)
          (plan_accepted dict (asked_of net node) (id_at net.rows ids node) time (network_admits net is ids range node dict its) (node_taken net node dict is its)) in
          subst (CanBeSet (node_settings net ids node)) (sym begins)
          (record { short = each_short (node_settings net ids node) (all_fit_in net ids node is small); accepts = accepted; built = resets.1 })

  pub can_boot : CanBoot (manager_of net ids (device_nodes net)) (map (device_at net) (device_nodes net)) (dictionary_at net)
  can_boot = record {
    apart = are_apart (device_nodes net) (nodes_rise net 127);
    low = λ number node e.
        let f = found_node (IsUpTo 127) (device_nodes net) number node (nodes_low net 127) e in
        let high = f.1.1 in
        omega (arith, high);
    patient = λ number node e.
        let f = found_node (IsUpTo 127) (device_nodes net) number node (nodes_low net 127) e in
        let limit : node.limit ≡ 20000000 = ap (λ (n : Node). n.limit) f.0 in
        omega (arith, limit);
    each = λ number node e.
        let f = found_node (HasDevice net) (device_nodes net) number node (have_devices net 127) e in
        subst (λ (n : Node). CanBeSet n.settings (dictionary_at net number)) (sym f.0) (can_be_set number f.1);
    served = λ number device e.
        let f = found_device (device_nodes net) number device e in
        (ap (λ (d : Attached). d.server.node) f, ap (λ (d : Attached). d.dict) f);
  }

  -- its nodes have the settings of the plan, and its devices the dictionaries of their EDS files
  pub plan_of : IsPlanOf net ids (manager_of net ids (device_nodes net)) (dictionary_at net)
  plan_of = record {
    network = is;
    range = range;
    settings = λ number node e. ap (λ (n : Node). n.settings) (found_node (HasDevice net) (device_nodes net) number node (have_devices net 127) e).0;
    devices = λ number node e. own_dictionary number (found_node (HasDevice net) (device_nodes net) number node (have_devices net 127) e).1;
  }
