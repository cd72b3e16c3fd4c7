-- What a plan sets in a node are numbers that the objects can have.
use Rattle.std.proofs.Common.{◌≡◌, ◌<◌, ℕ, ◌^◌, Bool, true, false, ◌&&◌, ◌||◌, cond, List, [], ◌∷◌, ◌++◌, length, get_or, Option, Some, None, is_some, refl, sym, ap, ◌∙◌, arith, All, IfSome, Contains}
use Rattle.std.specs.Prelude.{ℤ, pos}
use Rattle.std.specs.List.{filter_map}
use Rattle.std.specs.Option.{option_and_then}
use Rattle.std.specs.Ordering.{int_eq}
use Rattle.std.specs.Result.{is_ok}
use Rattle.std.specs.Int.{bytes_low_first}
use Rattle.std.proofs.lemmas.List.{get_or_default}
use Rattle.cop_dict.specs.Dict.{written}
use Rattle.std.proofs.lemmas.List.Elements.{All-append, All-cons, All-nil}
use Rattle.cop_eds.proofs.EditLemmas.{and_left, and_right, sections_equal}
use Rattle.cop_dict.specs.declared.data_type.DataType.{DataType}
use Rattle.cop_dict.specs.declared.data_type.DataType.TheVariants as types
use Rattle.cop_dict.specs.Types.{is_unsigned32, bits_of}
use Rattle.cop_dict.specs.Number.{number}
use Rattle.cop_dict.specs.Find.{Entry, entry_at, IsSorted}
use Rattle.cop_dict.specs.Pdo.{is_cob_id, is_communication, exists_by}
use Rattle.cop_dict.proofs.DictLemmas.{own_place}
use Rattle.cop_pdo.specs.CobIds.{off, on}
use Rattle.cop_net.specs.Settings.{whole_of, is_unsigned16, has_or_takes, beats, beats_by}
use Rattle.cop_setup.specs.declared.setting.Setting.{Setting}
use Rattle.cop_setup.specs.declared.setting.Width.TheVariants.{Two, Four}
use Rattle.cop_dcf.specs.Settings.{off_set, on_set, set_of, time_set, heartbeat_set, settings_of}
use Rattle.cop_setup.specs.Settings.{cob_id_set, has_numbers, IsNumber}
use Rattle.cop_dcf.proofs.SettingsLemmas.{all_given}

-- an UNSIGNED32 has each number of four bytes, an UNSIGNED16 each of two
wide : (t : DataType) → is_unsigned32 t ≡ true → has_numbers t Four ≡ true
wide types.Unsigned32 e = refl
wide _ e = cc

wide_fits : (t : DataType) (v : ℕ) → is_unsigned32 t ≡ true → v < 2 ^ 32 → IfSome (bits_of t) (λ bits. v < 2 ^ bits)
wide_fits types.Unsigned32 v e small = small
wide_fits _ v e small = cc

short : (t : DataType) → is_unsigned16 t ≡ true → has_numbers t Two ≡ true
short types.Unsigned16 e = refl
short _ e = cc

short_fits : (t : DataType) (v : ℕ) → is_unsigned16 t ≡ true → v < 2 ^ 16 → IfSome (bits_of t) (λ bits. v < 2 ^ bits)
short_fits types.Unsigned16 v e small = small
short_fits _ v e small = cc

inside : (dict : List Entry) (k : ℕ) (d : Entry) → k < length dict → Contains dict (get_or dict k d)
inside dict k d lt = (k, lt, get_or_default dict k (get_or dict k d) d lt)

module _ (dict : List Entry) (sorted : IsSorted dict) where
  cob_id_number : (e : Entry) (value : ℕ) → Contains dict e → is_cob_id e ≡ true → is_unsigned32 e.description.data_type ≡ true → value < 2 ^ 32 → IsNumber dict (cob_id_set e.index value)
  cob_id_number e value inside own kind small =
      let sub : e.sub ≡ 1 = sections_equal e.sub 1 (and_right (is_communication e.index) _ own) in
      record { entry = e; here = ap (λ n. entry_at dict e.index n) (sym sub) ∙ own_place dict e sorted inside; numbers = wide e.description.data_type kind; fits = wide_fits e.description.data_type value kind small }

  off_number : (ids : ℕ → Option ℕ) (e : Entry) → Contains dict e → IfSome (set_of off_set ids e) (IsNumber dict)
  off_number ids e inside = by_test (is_cob_id e) refl (is_unsigned32 e.description.data_type) refl
    where
      by_used : (b : Bool) → is_cob_id e ≡ true → is_unsigned32 e.description.data_type ≡ true → IfSome (cond b (Some (cob_id_set e.index (off (number e.value)))) None) (IsNumber dict)
      by_used true own kind = cob_id_number e (off (number e.value)) inside own kind (omega arith)
      by_used false own kind = tt

      by_test : (b : Bool) → is_cob_id e ≡ b → (c : Bool) → is_unsigned32 e.description.data_type ≡ c
          → IfSome (cond b (option_and_then (off_set (ids e.index) e.index) (cond c (Some (number e.value)) None)) None) (IsNumber dict)
      by_test false own c kind = tt
      by_test true own false kind = tt
      by_test true own true kind = by_used (is_some (ids e.index) || exists_by (number e.value)) own kind

  on_number : (ids : ℕ → Option ℕ) (e : Entry) → Contains dict e → IfSome (ids e.index) (λ id. id < 2 ^ 11) → IfSome (set_of on_set ids e) (IsNumber dict)
  on_number ids e inside small = by_test (is_cob_id e) refl (is_unsigned32 e.description.data_type) refl (ids e.index) small
    where
      by_test : (b : Bool) → is_cob_id e ≡ b → (c : Bool) → is_unsigned32 e.description.data_type ≡ c → (id : Option ℕ) → IfSome id (λ id. id < 2 ^ 11)
          → IfSome (cond b (option_and_then (on_set id e.index) (cond c (Some (number e.value)) None)) None) (IsNumber dict)
      by_test false own c kind id h = tt
      by_test true own false kind id h = tt
      by_test true own true kind None h = tt
      by_test true own true kind (Some id) h = cob_id_number e (on (number e.value) id) inside own kind (omega arith)

  time_number : (time : ℕ) → time < 2 ^ 16 → beats dict time ≡ true → All (IsNumber dict) (time_set time (option_and_then whole_of (entry_at dict 0x1017 0)))
  time_number time small h = by_entry (entry_at dict 0x1017 0) refl h
    where
      none : All (IsNumber dict) []
      none = All-nil (IsNumber dict)

      by_now : (e : Entry) → entry_at dict 0x1017 0 ≡ Some e → (now : Option ℤ) → has_or_takes dict time e now ≡ true → All (IsNumber dict) (time_set time now)
      by_now e is None k = none
      by_now e is (Some n) k = by_test (int_eq n (pos time)) k
        where
          by_test : (b : Bool) → b || (is_unsigned16 e.description.data_type && is_ok (written dict 0x1017 0 (bytes_low_first 0 2 time))) ≡ true → All (IsNumber dict) (cond b [] (heartbeat_set time ∷ []))
          by_test true l = none
          by_test false l =
              All-cons (IsNumber dict) (heartbeat_set time) []
              (record { entry = e; here = is; numbers = short e.description.data_type (and_left _ _ l); fits = short_fits e.description.data_type time (and_left _ _ l) small }) none

      by_entry : (o : Option Entry) → entry_at dict 0x1017 0 ≡ o → beats_by dict time o ≡ true → All (IsNumber dict) (time_set time (option_and_then whole_of o))
      by_entry None is k = none
      by_entry (Some e) is k = by_now e is (whole_of e) k

  pub all_numbers : (asked : List Setting) (ids : ℕ → Option ℕ) (time : ℕ) → All (IsNumber dict) asked → ((index : ℕ) → IfSome (ids index) (λ id. id < 2 ^ 11)) → time < 2 ^ 16 → beats dict time ≡ true
      → All (IsNumber dict) (settings_of dict asked ids time)
  all_numbers asked ids time numbers small low h =
      let offs : List Setting = filter_map (set_of off_set ids) dict in
      let ons : List Setting = filter_map (set_of on_set ids) dict in
      All-append (IsNumber dict) ((offs ++ asked) ++ ons) (time_set time (option_and_then whole_of (entry_at dict 0x1017 0)))
      (All-append (IsNumber dict) (offs ++ asked) ons
      (All-append (IsNumber dict) offs asked (all_given (IsNumber dict) (set_of off_set ids) dict (λ k d lt. off_number ids (get_or dict k d) (inside dict k d lt))) numbers)
      (all_given (IsNumber dict) (set_of on_set ids) dict (λ k d lt. on_number ids (get_or dict k d) (inside dict k d lt) (small (get_or dict k d).index))))
      (time_number time low h)
