-- A device that has the settings of a plan has what was asked of it, and elsewhere what it had.
use Rattle.std.proofs.Common.{◌≡◌, ℕ, Bool, true, false, cond, ◌&&◌, ◌==◌, List, [], ◌∷◌, Option, Some, None, IfSome, ◌++◌, All, ap, sym, subst, ◌∙◌, arith}
use Rattle.std.specs.Prelude.{ℤ, pos, option_map}
use Rattle.std.specs.List.{AllByRecursion, filter_map, cons_option}
use Rattle.std.specs.Option.{option_and_then}
use Rattle.std.specs.Ordering.{int_eq}
use Rattle.std.proofs.lemmas.Bool.{and_parts}
use Rattle.std.proofs.lemmas.Bool.Decides.{nat_tests}
use Rattle.std.proofs.lemmas.List.Elements.{All-head, All-tail}
use Rattle.cop_dict.specs.Find.{Entry, entry_at}
use Rattle.cop_dict.specs.Pdo.{is_communication}
use Rattle.cop_dict.specs.Dict.{valued}
use Rattle.cop_rows.specs.SettingRows.{is_settable}
use Rattle.cop_net.specs.Heartbeats.{heartbeat_of}
use Rattle.cop_net.specs.Network.{Net, IsNetwork}
use Rattle.cop_net.specs.Asking.{AreTaken}
use Rattle.cop_net.specs.Settings.{whole_of}
use Rattle.cop_setup.specs.declared.setting.Setting.{Setting}
use Rattle.cop_setup.specs.Settings.{bytes_of, planned, IsNumber}
use Rattle.cop_setup.specs.InTurn.{IsElsewhere, HaveValues}
use Rattle.cop_setup.proofs.CobIdLemmas.{Own, AtCobId}
use Rattle.cop_setup.proofs.InTurn.{kept_by_all, planned_append, have_values}
use Rattle.cop_dcf.specs.Identifiers.{id_at}
use Rattle.cop_dcf.specs.Settings.{off_set, on_set, set_of, time_set, heartbeat_set, settings_of, settings_by, asked_of, node_settings, dictionary_of}
use Rattle.cop_dcf.proofs.AskedLemmas.{node_taken}
use Rattle.cop_boot.proofs.PlanInTurn.{off_own, on_own}

-- ---- what a plan itself sets is at COB-IDs, and at the heartbeat's time

cob_id_apart : (index sub i j : ℕ) → is_communication index && (sub == 1) ≡ false → is_communication i ≡ true → j ≡ 1 → (i == index) && (j == sub) ≡ false
cob_id_apart index sub i j free c one = grind (arith, nat_tests, one)

module _ (index sub : ℕ) (free : is_communication index && (sub == 1) ≡ false) where
  cob_ids_apart : (f : Entry → Option Setting) (own : Own f) (xs : List Entry) → IsElsewhere index sub (filter_map f xs)
  cob_ids_apart f own [] = tt
  cob_ids_apart f own (x ∷ xs) = by_first (f x) (own x) (cob_ids_apart f own xs)
    where
      by_first : (o : Option Setting) → IfSome o (AtCobId x) → IsElsewhere index sub (filter_map f xs) → IsElsewhere index sub (cons_option o (filter_map f xs))
      by_first None at rest = rest
      by_first (Some s) at rest = (cob_id_apart index sub s.index s.sub free (ap is_communication at.1.0 ∙ (and_parts (is_communication x.index) (x.sub == 1) at.0).0) at.1.1, rest)

  time_apart : (time : ℕ) (o : Option ℤ) → (0x1017 == index) && (0 == sub) ≡ false → IsElsewhere index sub (time_set time o)
  time_apart time None h = tt
  time_apart time (Some now) h = by_test (int_eq now (pos time))
    where
      by_test : (b : Bool) → IsElsewhere index sub (cond b [] (heartbeat_set time ∷ []))
      by_test true = tt
      by_test false = (h, tt)

  module _ (dict : List Entry) (asked : List Setting) (ids : ℕ → Option ℕ) (time : ℕ) (no_beat : (0x1017 == index) && (0 == sub) ≡ false) where
    abbrev offs : List Setting
    offs = filter_map (set_of off_set ids) dict

    abbrev ons : List Setting
    ons = filter_map (set_of on_set ids) dict

    abbrev beat : List Setting
    beat = time_set time (option_and_then whole_of (entry_at dict 0x1017 0))

    -- there what is asked decides
    asked_decide : entry_at (planned dict (settings_of dict asked ids time)) index sub ≡ entry_at (planned (planned dict offs) asked) index sub
    asked_decide =
        ap (λ (d : List Entry). entry_at d index sub)
        (planned_append ((offs ++ asked) ++ ons) beat dict ∙ ap (λ (d : List Entry). planned d beat) (planned_append (offs ++ asked) ons dict ∙ ap (λ (d : List Entry). planned d ons) (planned_append offs asked dict)))
        ∙ kept_by_all beat (planned (planned (planned dict offs) asked) ons) index sub (time_apart time (option_and_then whole_of (entry_at dict 0x1017 0)) no_beat)
        ∙ kept_by_all ons (planned (planned dict offs) asked) index sub (cob_ids_apart (set_of on_set ids) (on_own ids) dict)

    offs_keep : entry_at (planned dict offs) index sub ≡ entry_at dict index sub
    offs_keep = kept_by_all offs dict index sub (cob_ids_apart (set_of off_set ids) (off_own ids) dict)

    kept_elsewhere : IsElsewhere index sub asked → entry_at (planned dict (settings_of dict asked ids time)) index sub ≡ entry_at dict index sub
    kept_elsewhere h = asked_decide ∙ kept_by_all asked (planned dict offs) index sub h ∙ offs_keep

-- ---- what is asked is there

settable_no_cob_id : (index sub : ℕ) → is_settable index ≡ true → is_communication index && (sub == 1) ≡ false
settable_no_cob_id index sub h = grind (arith, nat_tests)

settable_no_time : (index sub : ℕ) → is_settable index ≡ true → (0x1017 == index) && (0 == sub) ≡ false
settable_no_time index sub h = grind (arith, nat_tests)

-- a dictionary has the value of a setting
abbrev Has : List Entry → Setting → Type 0
Has dict s = option_map (λ (e : Entry). e.value) (entry_at dict s.index s.sub) ≡ Some (bytes_of s)

module _ (dict : List Entry) (asked : List Setting) (ids : ℕ → Option ℕ) (time : ℕ) where
  abbrev quiet : List Entry
  quiet = planned dict (filter_map (set_of off_set ids) dict)

  has_values : (xs : List Setting) → All (λ s. is_settable s.index ≡ true) xs → All (IsNumber dict) xs → HaveValues quiet (planned quiet asked) xs
      → AllByRecursion (Has (planned dict (settings_of dict asked ids time))) xs
  has_values [] settable numbers have = tt
  has_values (s ∷ rest) settable numbers have =
      let own : is_settable s.index ≡ true = All-head (λ s. is_settable s.index ≡ true) s rest settable in
      let there : IsNumber dict s = All-head (IsNumber dict) s rest numbers in
      let no_cob = settable_no_cob_id s.index s.sub own in
      let at : entry_at quiet s.index s.sub ≡ Some there.entry = offs_keep s.index s.sub no_cob dict asked ids time (settable_no_time s.index s.sub own) ∙ there.here in
      let value : entry_at (planned dict (settings_of dict asked ids time)) s.index s.sub ≡ Some (valued (bytes_of s) there.entry) =
      asked_decide s.index s.sub no_cob dict asked ids time (settable_no_time s.index s.sub own) ∙ have.0 ∙ ap (option_map (valued (bytes_of s))) at in
      (ap (option_map (λ (e : Entry). e.value)) value, has_values rest (All-tail (λ s. is_settable s.index ≡ true) s rest settable) (All-tail (IsNumber dict) s rest numbers) have.1)

  pub asked_there : AreTaken dict asked → AllByRecursion (Has (planned dict (settings_of dict asked ids time))) asked
  asked_there are = has_values asked are.settable are.numbers (have_values asked quiet are.apart)

-- ---- the device of a node

pub values_there : (net : Net) (ids : List ℕ) (node : ℕ) (dict : List Entry) → IsNetwork net → dictionary_of net node ≡ Some dict
    → AllByRecursion (λ s. option_map (λ e. e.value) (entry_at (planned dict (node_settings net ids node)) s.index s.sub) ≡ Some (bytes_of s)) (asked_of net node)
values_there net ids node dict is its =
    let time = heartbeat_of net.nodes.frames node in
    let asked = asked_of net node in
    subst (λ (o : Option (List Entry)). AllByRecursion (Has (planned dict (settings_by asked (id_at net.rows ids node) time o))) asked) (sym its)
    (asked_there dict asked (id_at net.rows ids node) time (node_taken net node dict is its))

pub nothing_else : (net : Net) (ids : List ℕ) (node : ℕ) (dict : List Entry) (index sub : ℕ) → dictionary_of net node ≡ Some dict
    → is_communication index && (sub == 1) ≡ false → (0x1017 == index) && (0 == sub) ≡ false → IsElsewhere index sub (asked_of net node)
    → entry_at (planned dict (node_settings net ids node)) index sub ≡ entry_at dict index sub
nothing_else net ids node dict index sub its free no_beat h =
    let time = heartbeat_of net.nodes.frames node in
    let asked = asked_of net node in
    subst (λ (o : Option (List Entry)). entry_at (planned dict (settings_by asked (id_at net.rows ids node) time o)) index sub ≡ entry_at dict index sub) (sym its)
    (kept_elsewhere index sub free dict asked (id_at net.rows ids node) time no_beat h)
