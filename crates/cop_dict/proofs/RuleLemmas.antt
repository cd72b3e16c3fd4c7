-- No rule for writes asks for memory.
use Rattle.std.proofs.Common.{◌≡◌, ◌≢◌, ◌==◌, ℕ, Bool, true, false, List, [], ◌∷◌, Option, Some, None, Result, Ok, Err}
use Rattle.std.specs.Prelude.{if◌then◌else◌}
use Rattle.std.specs.List.{list_any}
use Rattle.std.specs.Option.{option_or}
use Rattle.cop_dict.specs.declared.abort.Abort.{Abort}
use Rattle.cop_dict.specs.declared.abort.Abort.TheVariants as aborts
use Rattle.cop_dict.specs.declared.description.Description.{Description}
use Rattle.cop_dict.specs.declared.mapping.MappingFault.{MappingFault}
use Rattle.cop_dict.specs.declared.mapping.MappingFault.TheVariants as faults
use Rattle.cop_dict.specs.Types.{width_of}
use Rattle.cop_dict.specs.Number.{number}
use Rattle.cop_dict.specs.Rules.{first_broken, value_rules, width_rules}
use Rattle.cop_dict.specs.Find.{Entry, entry_at}
use Rattle.cop_dict.specs.Mapping.{layout_bits}
use Rattle.cop_dict.specs.Pdo.{is_cob_id, is_mapping, cob_id_rules, mapping_rules, refused_layout, refused_count, refused_mapping, refused_by_pdos}
use Rattle.cop_dict.specs.Dict.{found, written, with_value, unless_broken, ◌>>=◌}

-- each rule has another code
abbrev NeverShort : List (Bool × Abort) → Type 0
NeverShort [] = Unit {0}
NeverShort (rule ∷ rules) = (rule.1 ≢ aborts.NoMemory) × NeverShort rules

none_short : (rules : List (Bool × Abort)) → NeverShort rules → first_broken rules ≢ Some aborts.NoMemory
none_short [] h e = cc
none_short (rule ∷ rules) h e = by_test rule.0 (none_short rules h.1) e
  where
    by_test : (b : Bool) → (first_broken rules ≢ Some aborts.NoMemory) → (if b then Some rule.1 else first_broken rules) ≡ Some aborts.NoMemory → ⊥
    by_test true later e = h.0 cc
    by_test false later e = later e

value_never : (d : Description) (bytes : List ℕ) → first_broken (value_rules d bytes) ≢ Some aborts.NoMemory
value_never d bytes = none_short (value_rules d bytes) ((λ e. cc), ((λ e. cc), by_width (width_of d.data_type)))
  where
    by_width : (width : Option ℕ) → NeverShort (width_rules d width bytes)
    by_width None = tt
    by_width (Some width) = ((λ e. cc), ((λ e. cc), ((λ e. cc), ((λ e. cc), ((λ e. cc), tt)))))

layout_never : (r : Result ℕ MappingFault) → refused_layout r ≢ Some aborts.NoMemory
layout_never (Ok bits) e = cc
layout_never (Err faults.TooLong) e = cc
layout_never (Err faults.Absent) e = cc
layout_never (Err faults.NoObject) e = cc
layout_never (Err faults.NotMappable) e = cc

mapping_never : (dict : List Entry) (entry : Entry) (count : ℕ) → refused_mapping dict entry count ≢ Some aborts.NoMemory
mapping_never dict entry count =
    by_rules (first_broken (mapping_rules dict entry)) (none_short (mapping_rules dict entry) ((λ e. cc), ((λ e. cc), tt))) (refused_count dict entry count) (by_count _)
  where
    by_rules : (a : Option Abort) → a ≢ Some aborts.NoMemory → (b : Option Abort) → b ≢ Some aborts.NoMemory → option_or a b ≢ Some aborts.NoMemory
    by_rules None first b later e = later e
    by_rules (Some a) first b later e = first e

    by_count : (b : Bool) → (if b then refused_layout (layout_bits dict entry.index count) else None) ≢ Some aborts.NoMemory
    by_count true e = layout_never (layout_bits dict entry.index count) e
    by_count false e = cc

pdos_never : (dict : List Entry) (entry : Entry) (bytes : List ℕ) → refused_by_pdos dict entry bytes ≢ Some aborts.NoMemory
unfolding refused_by_pdos
pdos_never dict entry bytes = by_tests (is_cob_id entry) (is_mapping entry.index)
  where
    by_tests : (a b : Bool) → (if a then first_broken (cob_id_rules entry (number bytes)) else if b then refused_mapping dict entry (number bytes) else None) ≢ Some aborts.NoMemory
    by_tests true b e = none_short (cob_id_rules entry (number bytes)) ((λ e. cc), ((λ e. cc), tt)) e
    by_tests false true e = mapping_never dict entry (number bytes) e
    by_tests false false e = cc

found_never : (dict : List Entry) (index : ℕ) (o : Option Entry) → found dict index o ≢ Err aborts.NoMemory
found_never dict index (Some entry) e = cc
found_never dict index None e = by_test (list_any (λ entry. entry.index == index) dict) e
  where
    by_test : (b : Bool) → (let r : Result Entry Abort = Err (if b then aborts.NoSub else aborts.NoObject) in r) ≢ Err aborts.NoMemory
    by_test true e = cc
    by_test false e = cc

broken_never : {A : Type 0} (o : Option Abort) (x : A) → o ≢ Some aborts.NoMemory → unless_broken o x ≢ Err aborts.NoMemory
broken_never None x h e = cc
broken_never (Some a) x h e = h cc

-- a write is never refused by a rule for want of memory
pub written_never : (dict : List Entry) (index sub : ℕ) (bytes : List ℕ) → written dict index sub bytes ≢ Err aborts.NoMemory
unfolding written
written_never dict index sub bytes = by_found (found dict index (entry_at dict index sub)) (found_never dict index (entry_at dict index sub))
  where
    by_value : (entry : Entry) (a : Option Abort) → a ≢ Some aborts.NoMemory
        → (unless_broken a entry >>= λ checked. unless_broken (refused_by_pdos dict checked bytes) (with_value index sub bytes dict)) ≢ Err aborts.NoMemory
    by_value entry None h e = broken_never (refused_by_pdos dict entry bytes) (with_value index sub bytes dict) (pdos_never dict entry bytes) e
    by_value entry (Some a) h e = h cc

    by_found : (r : Result Entry Abort) → r ≢ Err aborts.NoMemory
        → (r >>= λ entry. unless_broken (first_broken (value_rules entry.description bytes)) entry >>= λ checked. unless_broken (refused_by_pdos dict checked bytes) (with_value index sub bytes dict)) ≢ Err aborts.NoMemory
    by_found (Ok entry) h e = by_value entry (first_broken (value_rules entry.description bytes)) (value_never entry.description bytes) e
    by_found (Err a) h e = h cc
