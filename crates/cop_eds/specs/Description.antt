-- What the keys of an object's section say.
use Rattle.std.specs.Prelude.{ℕ, Bool, true, false, not, List, codes, ◌==◌, if◌then◌else◌, Option, Some, None, Result, Ok}
use Rattle.cop_eds.specs.declared.fault.Rule.TheVariants as rules
use Rattle.cop_eds.specs.declared.fault.Refusal.{Refusal}
use Rattle.cop_eds.specs.declared.line.Place.{Place}
use Rattle.cop_eds.specs.declared.description.Access.{Access}
use Rattle.cop_eds.specs.declared.description.ObjectType.{ObjectType}
use Rattle.cop_eds.specs.declared.description.ObjectType.TheVariants.{Null, Domain, TypeDefinition, StructDefinition, Var, Array, Record}
use Rattle.cop_eds.specs.declared.description.Description.{Description}
use Rattle.cop_eds.specs.Sections.{entry_of}
use Rattle.cop_eds.specs.Steps.{◌>>=◌, refuse, number_at, number_or}
use Rattle.cop_eds.specs.Access.{access_of}

-- the object type of a number (CiA 301)
abbrev pub object_type_of : ℕ → Option ObjectType
object_type_of n =
    if n == 0 then Some Null
    else if n == 2 then Some Domain
    else if n == 5 then Some TypeDefinition
    else if n == 6 then Some StructDefinition
    else if n == 7 then Some Var
    else if n == 8 then Some Array
    else if n == 9 then Some Record
    else None

-- an object that holds one value
abbrev pub holds_value : ObjectType → Bool
holds_value Domain = true
holds_value Var = true
holds_value Null = false
holds_value TypeDefinition = false
holds_value StructDefinition = false
holds_value Array = false
holds_value Record = false

-- an object that holds sub objects
abbrev pub holds_subs : ObjectType → Bool
holds_subs Array = true
holds_subs Record = true
holds_subs Null = false
holds_subs Domain = false
holds_subs TypeDefinition = false
holds_subs StructDefinition = false
holds_subs Var = false

abbrev pub known : {A : Type 0} → ℕ → Option A → Result A Refusal
known line None = refuse rules.UnknownType line
known line (Some x) = Ok x

-- the object type; VAR where the key is absent
unfoldable pub read_type : Option (ℕ × List ℕ) → Result ObjectType Refusal
read_type None = Ok Var
read_type (Some entry) = do
  n ← number_at entry
  known entry.0 (object_type_of n)

-- the compact form is not read
unfoldable pub no_compact_form : Option (ℕ × List ℕ) → Result (Unit {0}) Refusal
no_compact_form None = Ok tt
no_compact_form (Some entry) = do
  n ← number_at entry
  if n == 0 then Ok tt else refuse rules.CompactForm entry.0

-- where the data type is absent: that of a DOMAIN is 000Fh, a VAR must have one, and the others have no use for it
abbrev pub default_type : ℕ → ObjectType → Result ℕ Refusal
default_type line Domain = Ok 15
default_type line Var = refuse rules.UnknownType line
default_type line Null = Ok 0
default_type line TypeDefinition = Ok 0
default_type line StructDefinition = Ok 0
default_type line Array = Ok 0
default_type line Record = Ok 0

abbrev pub read_data_type : ℕ → ObjectType → Option (ℕ × List ℕ) → Result ℕ Refusal
read_data_type line kind None = default_type line kind
read_data_type line kind (Some entry) = number_at entry

-- the access, which an object that holds a value must have
abbrev pub access_in : Bool → ℕ → Option Access → Result (Option Access) Refusal
access_in is_needed line None = if is_needed then refuse rules.UnknownType line else Ok None
access_in is_needed line (Some access) = Ok (Some access)

abbrev pub read_access : ℕ → ObjectType → Option (ℕ × List ℕ) → Result (Option Access) Refusal
read_access line kind None = access_in (holds_value kind) line None
read_access line kind (Some entry) = access_in (holds_value kind) entry.0 (access_of entry.1)

-- what the section that begins at a place says of its object
unfoldable pub described : List ℕ → Place → Result Description Refusal
described text place = do
  object_type ← read_type (entry_of text place.section (codes "ObjectType"))
  _ ← no_compact_form (entry_of text place.section (codes "CompactSubObj"))
  data_type ← read_data_type place.line object_type (entry_of text place.section (codes "DataType"))
  access ← read_access place.line object_type (entry_of text place.section (codes "AccessType"))
  _ ← number_or 0 (entry_of text place.section (codes "SubNumber"))
  mapping ← number_or 0 (entry_of text place.section (codes "PDOMapping"))
  Ok (record { object_type = object_type; data_type = data_type; access = access; is_mappable = not (mapping == 0) })
