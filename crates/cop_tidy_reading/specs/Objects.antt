-- The objects of a device: by their own sections, else by the compact form of their array, else by CompactPDO.
use Rattle.std.specs.Prelude.{ℕ, zero, suc, ◌+◌, Bool, true, false, not, ◌||◌, ◌&&◌, ◌==◌, nat_lt, nat_le, is_some, unwrap_or, List, [], ◌∷◌, ◌++◌, map, if◌then◌else◌, Option, Some, None, Result, Ok, Err}
use Rattle.std.specs.Option.{option_map, option_map_or, option_or, option_and_then, option_to_list}
use Rattle.cop_eds.specs.declared.amount.Amount.{Amount}
use Rattle.cop_eds.specs.declared.amount.Amount.TheVariants as amounts
use Rattle.cop_eds.specs.declared.description.Access.{Access}
use Rattle.cop_eds.specs.declared.description.Access.TheVariants.{ReadOnly}
use Rattle.cop_eds.specs.declared.description.ObjectType.{ObjectType}
use Rattle.cop_eds.specs.declared.description.ObjectType.TheVariants.{Domain, Var, Array, Record}
use Rattle.cop_eds.specs.Description.{holds_value, holds_subs}
use Rattle.cop_dict.specs.declared.data_type.DataType.TheVariants.{Unsigned8}
use Rattle.cop_dict.specs.Types.{type_numbered}
use Rattle.cop_dict.specs.Pdo.{is_communication, is_mapping}
use Rattle.cop_tidy_lines.specs.declared.names.SectionName.TheVariants as names
use Rattle.cop_tidy_lines.specs.declared.keys.Key.{Key}
use Rattle.cop_tidy_lines.specs.declared.keys.Key.TheVariants as keys
use Rattle.cop_tidy_lines.specs.declared.kinds.LineKind.{LineKind}
use Rattle.cop_tidy_lines.specs.declared.kinds.LineKind.TheVariants.{Pair}
use Rattle.cop_tidy_reading.specs.declared.question.About.{About}
use Rattle.cop_tidy_reading.specs.declared.question.About.TheVariants as abouts
use Rattle.cop_tidy_reading.specs.declared.question.Question.{Question}
use Rattle.cop_tidy_reading.specs.declared.words.Words.{Words}
use Rattle.cop_tidy_reading.specs.declared.pdos.CompactPdo.{CompactPdo}
use Rattle.cop_tidy_reading.specs.declared.pdos.Implied.{Implied}
pub use Rattle.cop_tidy_reading.specs.declared.objects.Main.{Main}
pub use Rattle.cop_tidy_reading.specs.declared.objects.Place.{Place}
use Rattle.cop_tidy_reading.specs.Questions.{◌>>=◌, ask, both, all_of, unless}
use Rattle.cop_tidy_reading.specs.Gathering.{joined_by, all_clear, beside}
use Rattle.cop_tidy_reading.specs.Items.{Said}
use Rattle.cop_tidy_reading.specs.Sections.{Section, section_named, has_subs_from, pairs_of, raw_of, entry_of}
use Rattle.cop_tidy_reading.specs.Stated.{number_at, object_type_at, data_type_at, access_at, mappable_at}
use Rattle.cop_tidy_reading.specs.Standard.{is_pdo, is_needed, standard_type, standard_access, forced_type}
use Rattle.cop_tidy_reading.specs.Pdos.{line_of, implies, implied}
use Rattle.cop_tidy_reading.specs.Values.{Source, value_in, limit_in}
use Rattle.cop_tidy_device.specs.declared.device.Value.{Value}
use Rattle.cop_tidy_device.specs.declared.device.Value.TheVariants.{Nothing, Number}
use Rattle.cop_tidy_device.specs.declared.device.DeviceObject.{DeviceObject}

-- a text, the choices, what its lists name, and what CompactPDO says
pub record Whole : Type 0 where
  pub items : List Said
  pub words : Words
  pub listed : List ℕ
  pub pdos : CompactPdo

abbrev pub is_array : ObjectType → Bool
is_array Array = true
is_array _ = false

abbrev pub is_var : ObjectType → Bool
is_var Var = true
is_var _ = false

abbrev pub is_domain : ObjectType → Bool
is_domain Domain = true
is_domain _ = false

abbrev pub stated_or : {A : Type 0} → Option A → Result (Option A) Question → Option A
stated_or default (Ok (Some a)) = Some a
stated_or default (Ok None) = default
stated_or default (Err question) = default

-- ---- the object at an index

-- a section lacks the data type or the access of a value
abbrev pub lacks_value : Whole → ℕ → Bool
lacks_value whole section =
    not (is_some (entry_of whole.items section keys.DataType) && is_some (entry_of whole.items section keys.AccessType))

-- what is described as one value and has subs is a record: of PDOs always (CiA 301), else where it lacks a data type or an access
abbrev pub is_record_by_subs : Whole → ℕ → ℕ → ObjectType → Bool
is_record_by_subs whole index section kind =
    if is_pdo index && (implies whole.pdos whole.listed index || has_subs_from whole.items index 0) then not (holds_subs kind)
    else is_var kind && (has_subs_from whole.items index 1 && lacks_value whole section)

-- a VAR where nothing is stated, or an array where there is a compact form
abbrev pub stated_kind : ℕ → Result (Option ObjectType) Question → ObjectType
stated_kind compact (Ok (Some kind)) = kind
stated_kind compact (Ok None) = if compact == 0 then Var else Array
stated_kind compact (Err question) = Var

abbrev pub kind_by : Whole → ℕ → ℕ → ObjectType → ObjectType
kind_by whole index section kind = if is_record_by_subs whole index section kind then Record else kind

-- how many subs CompactSubObj states; 77 where that is no number
abbrev pub compact_by : Result (Option ℕ) Question → Result ℕ Question
compact_by (Ok count) = Ok (unwrap_or count 0)
compact_by (Err question) = ask abouts.Compact question.line

abbrev pub count_in : Whole → ℕ → Result ℕ Question
count_in whole section = compact_by (number_at whole.words.digits whole.items section keys.CompactSubObj)

abbrev pub or_0 : Result ℕ Question → ℕ
or_0 (Ok n) = n
or_0 (Err question) = 0

abbrev pub kind_in : Whole → ℕ → ℕ → ObjectType
kind_in whole index section =
    kind_by whole index section (stated_kind (or_0 (count_in whole section)) (object_type_at whole.words.digits whole.items section))

-- an array or a record may have a compact form, of at most 254 subs
abbrev pub can_be : ObjectType → ℕ → Bool
can_be kind compact = (compact == 0) || (holds_subs kind && nat_le compact 254)

abbrev pub main_by : Whole → ℕ → Section → ObjectType → ℕ → Main
main_by whole index section kind compact = record {
  index = index;
  section = Some section;
  object_type = kind;
  compact = if can_be kind compact then compact else 0;
  data_type = stated_or (standard_type index 1) (data_type_at whole.words.digits whole.items section.number);
  access = stated_or (standard_access index 1) (access_at whole.items section.number);
}

abbrev pub main_in : Whole → ℕ → Option Section → Main
main_in whole index None = record { index = index; section = None; object_type = Record; compact = 0; data_type = None; access = None }
main_in whole index (Some section) = main_by whole index section (kind_in whole index section.number) (or_0 (count_in whole section.number))

-- the object at an index: a record where CompactPDO alone tells of it
unfoldable pub main_at : Whole → ℕ → Main
main_at whole index = main_in whole index (section_named whole.items (names.Object index))

-- ---- types and accesses

-- a key that is absent has what stands for it, else a question at the section's header
abbrev pub wanted : {A : Type 0} → Option A → About → ℕ → Result (Option A) Question → Result A Question
wanted default about line (Err question) = Err question
wanted default about line (Ok (Some a)) = Ok a
wanted (Some a) about line (Ok None) = Ok a
wanted None about line (Ok None) = ask about line

abbrev pub is_count : Option ℕ → Bool
is_count None = false
is_count (Some sub) = sub == 0

-- the subs of an array are like its own section
abbrev pub is_of_array : Place → Bool
is_of_array place = is_some place.sub && is_array place.main.object_type

-- the data type of a section that states none: that of CiA 301, UNSIGNED8 of a number of entries, that of the array; 000Fh of a DOMAIN
abbrev pub default_type : Place → Option ℕ
default_type place =
    if is_domain place.object_type then Some 15
    else option_or (standard_type place.main.index (unwrap_or place.sub 1))
    (if is_count place.sub then Some 5 else if is_of_array place then place.main.data_type else None)

-- the access of a section that states none: that of CiA 301, that of the array, `ro` of a number of entries that cannot be written, or the chosen one
abbrev pub default_access : Option Access → Place → Option Access
default_access chosen place =
    option_or (standard_access place.main.index (unwrap_or place.sub 1))
    (option_or (if is_of_array place then place.main.access else None)
    (if is_count place.sub && not ((place.main.index == 0x1003) || is_mapping place.main.index) then Some ReadOnly else chosen))

abbrev pub type_or : Option ℕ → Result ℕ Question → Result ℕ Question
type_or (Some n) other = Ok n
type_or None other = other

-- the data type of a section that holds a value
abbrev pub type_of : Whole → Place → Result ℕ Question
type_of whole place =
    type_or (option_and_then (forced_type place.main.index) place.sub)
    (wanted (default_type place) abouts.Types place.section.line (data_type_at whole.words.digits whole.items place.section.number))

abbrev pub access_of : Whole → Place → Result Access Question
access_of whole place = wanted (default_access whole.words.access place) abouts.Accesses place.section.line (access_at whole.items place.section.number)

-- ---- objects

abbrev pub described_by : Whole → Place → ℕ → ℕ × Value → Access × Bool → DeviceObject
described_by whole place sub typed said = record {
  index = place.main.index;
  sub = sub;
  data_type = type_numbered typed.0;
  access = said.0;
  is_mappable = said.1;
  low = limit_in whole.words.digits whole.items (type_numbered typed.0) place.section.number true;
  high = limit_in whole.words.digits whole.items (type_numbered typed.0) place.section.number false;
  value = typed.1;
}

-- the data type of a section that holds a value, and the value, which may stand in one of these sources
abbrev pub typed_value_in : Whole → Place → List Source → Result (ℕ × Value) Question
typed_value_in whole place sources =
    type_of whole place >>= λ n.
    value_in whole.words.digits whole.items (type_numbered n) (is_needed place.main.index) sources >>= λ value.
    Ok (n, value)

-- the object of a section that holds a value, at a sub
unfoldable pub object_in : Whole → Place → ℕ → List Source → Result (Option DeviceObject) Question
object_in whole place sub sources =
    both (typed_value_in whole place sources) (both (access_of whole place) (mappable_at whole.words.digits whole.items place.section.number))
    >>= λ found. Ok (Some (described_by whole place sub found.0 found.1))

abbrev pub source : ℕ → Key → Source
source section key = record { section = section; key = key }

-- ParameterValue counts before DefaultValue
abbrev pub own_object : Whole → Place → Result (Option DeviceObject) Question
own_object whole place =
    object_in whole place (unwrap_or place.sub 0) (source place.section.number keys.ParameterValue ∷ source place.section.number keys.DefaultValue ∷ [])

-- the section of a sub is of a VAR where nothing is stated, and in records of PDOs
abbrev pub sub_kind : Whole → ℕ → Section → ObjectType
sub_kind whole index section =
    if is_pdo index then Var else unwrap_or (stated_or None (object_type_at whole.words.digits whole.items section.number)) Var

abbrev pub value_at : Whole → Place → Result (Option DeviceObject) Question
value_at whole place = if holds_value place.object_type then own_object whole place else Ok None

abbrev pub in_section : Whole → Main → ℕ → Section → Result (Option DeviceObject) Question
in_section whole main sub section =
    value_at whole (record { main = main; sub = Some sub; section = section; object_type = sub_kind whole main.index section })

-- ---- compact forms (CiA 306, compact storage)

-- the section of the values of a compact form
abbrev pub values_of : Whole → ℕ → Option Section
values_of whole index = section_named whole.items (names.Values index)

-- sub 0 of a compact form is the number of its subs
abbrev pub count_object : Main → DeviceObject
count_object main = record {
  index = main.index;
  sub = 0;
  data_type = Unsigned8;
  access = ReadOnly;
  is_mappable = false;
  low = None;
  high = None;
  value = Number (amounts.Decimal main.compact);
}

-- another sub is like the object, but for its value
abbrev pub value_object : Whole → Main → Section → ℕ → Result (Option DeviceObject) Question
value_object whole main section sub =
    object_in whole (record { main = main; sub = None; section = section; object_type = Var }) sub
    (option_map_or (λ values. source values.number (keys.Entry sub) ∷ []) (values_of whole main.index) [] ++ source section.number keys.DefaultValue ∷ [])

abbrev pub in_compact : Whole → Main → ℕ → Section → Result (Option DeviceObject) Question
in_compact whole main sub section = if sub == 0 then Ok (Some (count_object main)) else value_object whole main section sub

-- ---- records by CompactPDO

abbrev pub value_implied : Option Amount → Value
value_implied None = Nothing
value_implied (Some amount) = Number amount

abbrev pub object_implied : ℕ → ℕ → Implied → DeviceObject
object_implied index sub said = record {
  index = index;
  sub = sub;
  data_type = type_numbered said.data_type;
  access = said.access;
  is_mappable = false;
  low = None;
  high = None;
  value = value_implied said.amount;
}

abbrev pub in_pdos : Whole → ℕ → ℕ → Option DeviceObject
in_pdos whole index sub = option_map (object_implied index sub) (implied whole.pdos whole.listed index sub)

-- ---- all subs

-- the compact form has this sub
abbrev pub is_compact_sub : Main → ℕ → Bool
is_compact_sub main sub = not (main.compact == 0) && nat_le sub main.compact

abbrev pub without_section : Whole → Main → ℕ → Option Section → Result (Option DeviceObject) Question
without_section whole main sub None = Ok (in_pdos whole main.index sub)
without_section whole main sub (Some section) = if is_compact_sub main sub then in_compact whole main sub section else Ok (in_pdos whole main.index sub)

abbrev pub sub_by : Whole → Main → ℕ → Option Section → Result (Option DeviceObject) Question
sub_by whole main sub None = without_section whole main sub main.section
sub_by whole main sub (Some section) = in_section whole main sub section

-- a sub of an array or a record: by its own section, else by the compact form, else by CompactPDO
unfoldable pub sub_object : Whole → Main → ℕ → Result (Option DeviceObject) Question
sub_object whole main sub = sub_by whole main sub (section_named whole.items (names.Sub main.index sub))

-- so many subs from one on
unfoldable pub subs_from : Whole → Main → ℕ → ℕ → List (Result (Option DeviceObject) Question)
subs_from whole main sub zero = []
subs_from whole main sub (suc count) = sub_object whole main sub ∷ subs_from whole main (sub + 1) count

abbrev pub one_value : Whole → Main → Option Section → Result (Option DeviceObject) Question
one_value whole main None = Ok None
one_value whole main (Some section) = value_at whole (record { main = main; sub = None; section = section; object_type = main.object_type })

abbrev pub listed_value : Result (Option DeviceObject) Question → Result (List DeviceObject) Question
listed_value read = read >>= λ found. Ok (option_to_list found)

-- the objects at an index
unfoldable pub objects_of : Whole → Main → Result (List DeviceObject) Question
objects_of whole main =
    if holds_subs main.object_type then joined_by option_to_list (all_of (subs_from whole main 0 256)) else listed_value (one_value whole main main.section)

-- ---- what the sections of an object leave open, whether a value stands there or not

-- the kind, the data type, the access and the flag of a section have a reading
abbrev pub check_keys : Whole → ℕ → Result (Unit {0}) Question
check_keys whole section =
    both (both (object_type_at whole.words.digits whole.items section) (data_type_at whole.words.digits whole.items section))
    (both (access_at whole.items section) (mappable_at whole.words.digits whole.items section)) >>= λ _. Ok tt

abbrev pub check_sub_keys : Whole → Option Section → Result (Unit {0}) Question
check_sub_keys whole None = Ok tt
check_sub_keys whole (Some section) = check_keys whole section.number

-- the keys of the sections of so many subs of an index from one on
unfoldable pub sub_checks : Whole → ℕ → ℕ → ℕ → List (Result (Unit {0}) Question)
sub_checks whole index sub zero = []
sub_checks whole index sub (suc count) =
    check_sub_keys whole (section_named whole.items (names.Sub index sub)) ∷ sub_checks whole index (sub + 1) count

abbrev pub check_subs : Whole → ℕ → Result (Unit {0}) Question
check_subs whole index = all_clear (sub_checks whole index 0 256)

-- 77: the compact form cannot be
abbrev pub check_count : Whole → Section → ObjectType → Result (Unit {0}) Question
check_count whole section kind =
    count_in whole section.number >>= λ compact.
    unless (can_be kind compact) abouts.Compact (line_of section.line (raw_of whole.items section.number keys.CompactSubObj))

-- the own section of an object: its compact form and its keys
abbrev pub check_own : Whole → ObjectType → Option Section → Result (Unit {0}) Question
check_own whole kind None = Ok tt
check_own whole kind (Some section) = both (check_count whole section kind) (check_keys whole section.number) >>= λ _. Ok tt

abbrev pub has_sub : Whole → Main → ℕ → Bool
has_sub whole main sub =
    is_some (section_named whole.items (names.Sub main.index sub)) || (is_compact_sub main sub || is_some (implied whole.pdos whole.listed main.index sub))

-- 77: a PDO without a COB-ID cannot be switched off
abbrev pub check_record : Whole → Main → Option Section → Result (Unit {0}) Question
check_record whole main None = Ok tt
check_record whole main (Some section) = unless (not (is_communication main.index) || has_sub whole main 1) abouts.Compact section.line

abbrev pub is_value_key : ℕ → LineKind → Bool
is_value_key compact (Pair (keys.Entry sub)) = nat_lt 0 sub && nat_le sub compact
is_value_key compact (Pair keys.NrOfEntries) = true
is_value_key compact _ = false

-- 77: a value of a compact form that is of none of its subs
unfoldable pub check_value : ℕ → Said → Result (Unit {0}) Question
check_value compact item = unless ((compact == 0) || is_value_key compact item.kind) abouts.Compact item.line

abbrev pub check_values : Whole → Main → Option Section → Result (Unit {0}) Question
check_values whole main None = Ok tt
check_values whole main (Some section) = all_clear (map (check_value main.compact) (pairs_of whole.items section.number))

unfoldable pub check_object : Whole → Main → Result (Unit {0}) Question
check_object whole main =
    both (both (check_own whole main.object_type main.section) (check_subs whole main.index))
    (both (check_record whole main main.section) (check_values whole main (values_of whole main.index))) >>= λ _. Ok tt

-- all at an index: what it leaves open, and its objects
unfoldable pub described_at : Whole → ℕ → Result (List DeviceObject) Question
described_at whole index = beside (check_object whole (main_at whole index)) (objects_of whole (main_at whole index))
