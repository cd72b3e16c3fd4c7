-- Settings beside the record of a mapping leave what the PDO moves: which objects, in which order, with how many bits.
use Rattle.std.proofs.Common.{◌≡◌, ℕ, zero, suc, ◌+◌, Bool, true, false, not, cond, ◌&&◌, ◌==◌, List, [], ◌∷◌, Option, Some, None, Result, Ok, Err, option_map, ◌++◌, is_some, refl, ap, subst, ◌∙◌, arith}
use Rattle.std.specs.Option.{option_and_then}
use Rattle.std.proofs.lemmas.Bool.Decides.{nat_tests}
use Rattle.cop_dict.specs.declared.mapping.Direction.{Direction}
use Rattle.cop_dict.specs.declared.mapping.Mapped.{Mapped}
use Rattle.cop_dict.specs.declared.mapping.MappingFault.{MappingFault}
use Rattle.cop_dict.specs.declared.mapping.MappingFault.TheVariants as faults
use Rattle.cop_dict.specs.Find.{Entry, entry_at, unsigned32_of}
use Rattle.cop_dict.specs.Dict.{valued}
use Rattle.cop_dict.specs.Mapping.{direction_of, fields_of, is_dummy, mapped_object, mapped_by, mapped_number, mapped_at, mapped_from, layout, ◌>>=◌}
use Rattle.cop_dict.proofs.Replaced.{value_replaced}
use Rattle.cop_dict.proofs.LawLemmas.{others}
use Rattle.cop_pdo.specs.Payload.{communication_of, mapping_of, count_by, payload_of}
use Rattle.cop_setup.specs.declared.setting.Setting.{Setting}
use Rattle.cop_setup.specs.Settings.{bytes_of, with_setting, planned}
use Rattle.cop_setup.specs.Offs.{AreBeside}

-- ---- a setting beside the record of a mapping

module _ (s : Setting) (dict : List Entry) where
  -- an entry is as it was, or has another value
  abbrev Kept : ℕ → ℕ → Type 0
  Kept index sub = (value : List ℕ) × (entry_at (with_setting dict s) index sub ≡ option_map (valued value) (entry_at dict index sub))

  some_value : (o : Option Entry) → (v : List ℕ) → is_some (option_map (valued v) o) ≡ is_some o
  some_value None v = refl
  some_value (Some e) v = refl

  elsewhere : (index sub : ℕ) → (s.index == index) ≡ false → entry_at (with_setting dict s) index sub ≡ entry_at dict index sub
  elsewhere index sub h = others dict s.index s.sub index sub (bytes_of s) (rw h refl)

  object_same : (direction : Direction) (m : Mapped) → mapped_object direction m (entry_at (with_setting dict s) m.index m.sub) ≡ mapped_object direction m (entry_at dict m.index m.sub)
  object_same direction m = by_test ((s.index == m.index) && (s.sub == m.sub)) refl
    where
      same : (a b c d : ℕ) → ((a == c) && (b == d)) ≡ true → (a ≡ c) × (b ≡ d)
      same a b c d t = (grind (arith, nat_tests), grind (arith, nat_tests))

      by_entry : (o : Option Entry) (v : List ℕ) → mapped_object direction m (option_map (valued v) o) ≡ mapped_object direction m o
      by_entry None v = refl
      by_entry (Some e) v = refl

      by_test : (b : Bool) → ((s.index == m.index) && (s.sub == m.sub)) ≡ b → mapped_object direction m (entry_at (with_setting dict s) m.index m.sub) ≡ mapped_object direction m (entry_at dict m.index m.sub)
      by_test false t = ap (mapped_object direction m) (others dict s.index s.sub m.index m.sub (bytes_of s) t)
      by_test true t =
          let at = same s.index s.sub m.index m.sub t in
          let now : entry_at (with_setting dict s) m.index m.sub ≡ option_map (valued (bytes_of s)) (entry_at dict m.index m.sub) =
          subst (λ n. entry_at (with_setting dict s) n m.sub ≡ option_map (valued (bytes_of s)) (entry_at dict n m.sub)) at.0
          (subst (λ n. entry_at (with_setting dict s) s.index n ≡ option_map (valued (bytes_of s)) (entry_at dict s.index n)) at.1 (value_replaced dict s.index s.sub (bytes_of s))) in
          ap (mapped_object direction m) now ∙ by_entry (entry_at dict m.index m.sub) (bytes_of s)

  by_same : (direction : Direction) (m : Mapped) → mapped_by (with_setting dict s) direction m ≡ mapped_by dict direction m
  by_same direction m = ap (λ r. cond (is_dummy direction m) (Ok m) r) (object_same direction m)

  number_same : (direction : Direction) (o : Option ℕ) → mapped_number (with_setting dict s) direction o ≡ mapped_number dict direction o
  number_same direction None = refl
  number_same direction (Some n) = by_same direction (fields_of n)

  at_same : (record_index sub : ℕ) → (s.index == record_index) ≡ false → mapped_at (with_setting dict s) record_index sub ≡ mapped_at dict record_index sub
  unfolding mapped_at
  at_same record_index sub h =
      ap (λ o. mapped_number (with_setting dict s) (direction_of record_index) (option_and_then unsigned32_of o)) (elsewhere record_index sub h)
      ∙ number_same (direction_of record_index) (option_and_then unsigned32_of (entry_at dict record_index sub))

  from_same : (record_index : ℕ) → (s.index == record_index) ≡ false → (sub count : ℕ) → mapped_from (with_setting dict s) record_index sub count ≡ mapped_from dict record_index sub count
  from_same record_index h sub zero = refl
  from_same record_index h sub (suc count) =
      ap (λ r. r >>= λ first. mapped_from (with_setting dict s) record_index (sub + 1) count >>= λ rest. Ok (first ∷ rest)) (at_same record_index sub h)
      ∙ ap (λ r. mapped_at dict record_index sub >>= λ first. r >>= λ rest. Ok (first ∷ rest)) (from_same record_index h (sub + 1) count)

  layout_same : (record_index : ℕ) → (s.index == record_index) ≡ false → (count : ℕ) → layout (with_setting dict s) record_index count ≡ layout dict record_index count
  unfolding layout
  layout_same record_index h count = rw (from_same record_index h 1 count) refl

  present_same : (index sub : ℕ) → is_some (entry_at (with_setting dict s) index sub) ≡ is_some (entry_at dict index sub)
  present_same index sub = by_test ((s.index == index) && (s.sub == sub)) refl
    where
      same : (a b c d : ℕ) → ((a == c) && (b == d)) ≡ true → (a ≡ c) × (b ≡ d)
      same a b c d t = (grind (arith, nat_tests), grind (arith, nat_tests))

      by_test : (b : Bool) → ((s.index == index) && (s.sub == sub)) ≡ b → is_some (entry_at (with_setting dict s) index sub) ≡ is_some (entry_at dict index sub)
      by_test false t = ap is_some (others dict s.index s.sub index sub (bytes_of s) t)
      by_test true t =
          let at = same s.index s.sub index sub t in
          let here : is_some (entry_at (with_setting dict s) s.index s.sub) ≡ is_some (entry_at dict s.index s.sub) =
          ap is_some (value_replaced dict s.index s.sub (bytes_of s)) ∙ some_value (entry_at dict s.index s.sub) (bytes_of s) in
          subst (λ n. is_some (entry_at (with_setting dict s) n sub) ≡ is_some (entry_at dict n sub)) at.0
          (subst (λ n. is_some (entry_at (with_setting dict s) s.index n) ≡ is_some (entry_at dict s.index n)) at.1 here)

  bind_same : (record_index : ℕ) → (s.index == record_index) ≡ false → (r : Result ℕ MappingFault) → (r >>= layout (with_setting dict s) record_index) ≡ (r >>= layout dict record_index)
  bind_same record_index h (Ok n) = layout_same record_index h n
  bind_same record_index h (Err e) = refl

  payload_same : (direction : Direction) (n : ℕ) → (s.index == mapping_of direction n) ≡ false → payload_of (with_setting dict s) direction n ≡ payload_of dict direction n
  unfolding payload_of
  payload_same direction n h =
      ap (λ b. cond (not b) (Err faults.Absent) (count_by (entry_at (with_setting dict s) (mapping_of direction n) 0) >>= layout (with_setting dict s) (mapping_of direction n))) (present_same (communication_of direction n) 1)
      ∙ ap (λ o. cond (not (is_some (entry_at dict (communication_of direction n) 1))) (Err faults.Absent) (count_by o >>= layout (with_setting dict s) (mapping_of direction n))) (elsewhere (mapping_of direction n) 0 h)
      ∙ ap (λ r. cond (not (is_some (entry_at dict (communication_of direction n) 1))) (Err faults.Absent) r) (bind_same (mapping_of direction n) h (count_by (entry_at dict (mapping_of direction n) 0)))

pub all_beside : (index : ℕ) (xs ys : List Setting) → AreBeside index xs → AreBeside index ys → AreBeside index (xs ++ ys)
all_beside index [] ys h k = k
all_beside index (x ∷ xs) ys h k = (h.0, all_beside index xs ys h.1 k)

pub payloads_kept : (settings : List Setting) (dict : List Entry) (direction : Direction) (n : ℕ) → AreBeside (mapping_of direction n) settings
    → payload_of (planned dict settings) direction n ≡ payload_of dict direction n
payloads_kept [] dict direction n h = refl
payloads_kept (s ∷ rest) dict direction n h = payloads_kept rest (with_setting dict s) direction n h.1 ∙ payload_same s dict direction n h.0
