-- What the lists of objects name (CiA 306: the keys 1 to SupportedObjects of MandatoryObjects, OptionalObjects and
-- ManufacturerObjects).
use Rattle.std.specs.Prelude.{ℕ, zero, suc, ◌+◌, ◌≡◌, ◌==◌, ◌||◌, Bool, false, List, codes, decimal, Option, Some, None, unwrap_or}
use Rattle.std.specs.Ordering.{nat_cmp}
use Rattle.std.specs.BTreeSet.{BTreeSet, contains}
use Rattle.cop_eds.specs.declared.line.Place.{Place}
use Rattle.cop_eds.specs.Sections.{place_of}
use Rattle.cop_eds_hazards.specs.Stated.{stated}

abbrev pub names : ℕ → Option ℕ → Bool
names index None = false
names index (Some named) = index == named

-- one of the first so many entries of a list names the index
unfoldable pub is_named_by : List ℕ → ℕ → ℕ → ℕ → Bool
is_named_by text section index zero = false
is_named_by text section index (suc n) = is_named_by text section index n || names index (stated text section (decimal (n + 1)))

-- how many entries a list says that it has
abbrev pub count_of : List ℕ → ℕ → ℕ
count_of text section = unwrap_or (stated text section (codes "SupportedObjects")) 0

abbrev pub is_named_at : List ℕ → ℕ → Option Place → Bool
is_named_at text index None = false
is_named_at text index (Some place) = is_named_by text place.section index (count_of text place.section)

-- the list in the section of this name names the index
abbrev pub is_named_in : List ℕ → List ℕ → ℕ → Bool
is_named_in text name index = is_named_at text index (place_of text name)

-- one of the three lists names the index
unfoldable pub is_listed : List ℕ → ℕ → Bool
is_listed text index =
    (is_named_in text (codes "MandatoryObjects") index || is_named_in text (codes "OptionalObjects") index)
    || is_named_in text (codes "ManufacturerObjects") index

-- these are the indexes that the lists name
pub record AreListed (text : List ℕ) (indexes : BTreeSet ℕ) : Type 0 where
  pub each : (index : ℕ) → contains nat_cmp indexes index ≡ is_listed text index
