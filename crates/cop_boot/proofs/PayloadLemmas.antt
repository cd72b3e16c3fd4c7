-- What a plan sets in a device leaves what its PDOs move: which objects, in which order, with how many bits.
use Rattle.std.proofs.Common.{◌≡◌, ◌≤◌, ℕ, ◌+◌, Bool, true, false, cond, ◌==◌, List, [], ◌∷◌, Option, Some, None, IfSome, ◌++◌, All, sym, subst, arith}
use Rattle.std.specs.Prelude.{ℤ, pos}
use Rattle.std.specs.List.{filter_map, cons_option}
use Rattle.std.specs.Option.{option_and_then}
use Rattle.std.specs.Ordering.{int_eq}
use Rattle.std.proofs.lemmas.Bool.{and_parts}
use Rattle.std.proofs.lemmas.Bool.Decides.{nat_tests}
use Rattle.cop_dict.specs.declared.mapping.Direction.{Direction}
use Rattle.cop_dict.specs.declared.mapping.Direction.TheVariants as directions
use Rattle.cop_dict.specs.Find.{Entry, entry_at}
use Rattle.cop_dict.specs.Pdo.{is_communication}
use Rattle.cop_pdo.specs.Payload.{mapping_of, payload_of}
use Rattle.cop_net.specs.Heartbeats.{heartbeat_of}
use Rattle.cop_net.specs.Network.{Net, IsNetwork}
use Rattle.cop_net.specs.Settings.{whole_of}
use Rattle.cop_setup.specs.declared.setting.Setting.{Setting}
use Rattle.cop_setup.specs.Settings.{planned}
use Rattle.cop_setup.specs.Offs.{AreBeside}
use Rattle.cop_setup.proofs.CobIdLemmas.{Own, AtCobId}
use Rattle.cop_setup.proofs.PayloadLemmas.{all_beside, payloads_kept}
use Rattle.cop_dcf.specs.Identifiers.{id_at}
use Rattle.cop_dcf.specs.Settings.{off_set, on_set, set_of, time_set, heartbeat_set, settings_of, settings_by, asked_of, node_settings, dictionary_of}
use Rattle.cop_dcf.proofs.AskedLemmas.{node_taken}
use Rattle.cop_rows.specs.SettingRows.{is_settable}
use Rattle.std.proofs.lemmas.List.Elements.{All-head, All-tail}
use Rattle.cop_boot.proofs.PlanInTurn.{off_own, on_own}

module _ (index : ℕ) (no_record : is_communication index ≡ false) where
  other : (e : Entry) (s : Setting) → AtCobId e s → (s.index == index) ≡ false
  other e s at =
      let own : is_communication e.index ≡ true = (and_parts (is_communication e.index) (e.sub == 1) at.0).0 in
      apart s.index e.index at.1.0 own
    where
      apart : (a b : ℕ) → a ≡ b → is_communication b ≡ true → (a == index) ≡ false
      apart a b same is = grind (arith, nat_tests, no_record)

  cob_ids_beside : (f : Entry → Option Setting) → Own f → (dict : List Entry) → AreBeside index (filter_map f dict)
  cob_ids_beside f own [] = tt
  cob_ids_beside f own (e ∷ rest) = by_first (f e) (own e) (cob_ids_beside f own rest)
    where
      by_first : (o : Option Setting) → IfSome o (AtCobId e) → AreBeside index (filter_map f rest) → AreBeside index (cons_option o (filter_map f rest))
      by_first None at behind = behind
      by_first (Some s) at behind = (other e s at, behind)

  time_beside : (time : ℕ) (now : Option ℤ) → (0x1017 == index) ≡ false → AreBeside index (time_set time now)
  time_beside time None h = tt
  time_beside time (Some v) h = by_test (int_eq v (pos time))
    where
      by_test : (b : Bool) → AreBeside index (cond b [] (heartbeat_set time ∷ []))
      by_test true = tt
      by_test false = (h, tt)

  settings_beside : (dict : List Entry) (asked : List Setting) (ids : ℕ → Option ℕ) (time : ℕ) → AreBeside index asked → (0x1017 == index) ≡ false → AreBeside index (settings_of dict asked ids time)
  settings_beside dict asked ids time beside h =
      let offs : List Setting = filter_map (set_of off_set ids) dict in
      let ons : List Setting = filter_map (set_of on_set ids) dict in
      let now = option_and_then whole_of (entry_at dict 0x1017 0) in
      all_beside index ((offs ++ asked) ++ ons) (time_set time now)
      (all_beside index (offs ++ asked) ons (all_beside index offs asked (cob_ids_beside (set_of off_set ids) (off_own ids) dict) beside) (cob_ids_beside (set_of on_set ids) (on_own ids) dict))
      (time_beside time now h)

-- what is asked is beside the records of mappings
settable_no_mapping : (direction : Direction) (n i : ℕ) → 1 ≤ n → n ≤ 512 → is_settable i ≡ true → (i == mapping_of direction n) ≡ false
settable_no_mapping directions.Receive n i low high h = grind (arith, nat_tests)
settable_no_mapping directions.Transmit n i low high h = grind (arith, nat_tests)

asked_no_mapping : (direction : Direction) (n : ℕ) (asked : List Setting) → 1 ≤ n → n ≤ 512 → All (λ s. is_settable s.index ≡ true) asked → AreBeside (mapping_of direction n) asked
asked_no_mapping direction n [] low high all = tt
asked_no_mapping direction n (s ∷ rest) low high all =
    (settable_no_mapping direction n s.index low high (All-head (λ s. is_settable s.index ≡ true) s rest all), asked_no_mapping direction n rest low high (All-tail (λ s. is_settable s.index ≡ true) s rest all))

-- the record of a mapping is no communication record, and not the heartbeat's time
mapping_apart : (direction : Direction) (n : ℕ) → 1 ≤ n → n ≤ 512 → (is_communication (mapping_of direction n) ≡ false) × ((0x1017 == mapping_of direction n) ≡ false)
mapping_apart directions.Receive n low high = (grind (arith, nat_tests), grind (arith, nat_tests))
mapping_apart directions.Transmit n low high = (grind (arith, nat_tests), grind (arith, nat_tests))

pub payloads_as_counted : (net : Net) (ids : List ℕ) (node : ℕ) (dict : List Entry) (direction : Direction) (n : ℕ) → IsNetwork net → dictionary_of net node ≡ Some dict → 1 ≤ n → n ≤ 512
    → payload_of (planned dict (node_settings net ids node)) direction n ≡ payload_of dict direction n
payloads_as_counted net ids node dict direction n is its low high =
    let apart = mapping_apart direction n low high in
    let time = heartbeat_of net.nodes.frames node in
    let asked = asked_of net node in
    let beside = asked_no_mapping direction n asked low high (node_taken net node dict is its).settable in
    subst (λ (o : Option (List Entry)). payload_of (planned dict (settings_by asked (id_at net.rows ids node) time o)) direction n ≡ payload_of dict direction n) (sym its)
    (payloads_kept (settings_of dict asked (id_at net.rows ids node) time) dict direction n (settings_beside (mapping_of direction n) apart.0 dict asked (id_at net.rows ids node) time beside apart.1))
