-- The objects that a device holds.
use Rattle.std.specs.Prelude.{◌≡◌, ℕ, Bool, true, false, ◌&&◌, ◌||◌, List, [], ◌∷◌, fold, find, ◌==◌, nat_lt, if◌then◌else◌, Option, Some, None, Result, Ok, Err}
use Rattle.std.specs.List.{flat_map, AllPairs}
use Rattle.std.specs.Option.{option_map}
use Rattle.std.specs.Ordering.{nat_cmp}
use Rattle.std.specs.BTreeSet.{insert_key}
use Rattle.cop_eds.specs.declared.fault.Refusal.{Refusal}
use Rattle.cop_eds.specs.declared.line.Place.{Place}
use Rattle.cop_eds.specs.declared.description.Access.{Access}
use Rattle.cop_eds.specs.declared.description.Description.{Description}
use Rattle.cop_eds.specs.declared.description.Object.{Object}
use Rattle.cop_eds.specs.Description.{described, holds_value, holds_subs}
use Rattle.cop_eds.specs.Lists.{listed, own_place, subs_of}

abbrev pub with_access : ℕ → ℕ → Place → Description → Option Access → List Object
with_access index sub place description None = []
with_access index sub place description (Some access) =
    record { index = index; sub = sub; place = place; data_type = description.data_type; access = access; is_mappable = description.is_mappable } ∷ []

-- the object that a section describes, where that holds a value
abbrev pub object_in : ℕ → ℕ → Place → Result Description Refusal → List Object
object_in index sub place (Err e) = []
object_in index sub place (Ok description) =
    if holds_value description.object_type then with_access index sub place description description.access else []

abbrev pub sub_object : List ℕ → ℕ → ℕ × Place → List Object
sub_object text index sub = object_in index sub.0 sub.1 (described text sub.1)

-- the objects of sub sections, where their index holds them
abbrev pub held_subs : List ℕ → ℕ → Bool → List (ℕ × Place) → List Object
held_subs text index true subs = flat_map (sub_object text index) subs
held_subs text index false subs = []

-- the objects at an index: a VAR or DOMAIN at sub 0, or those of the sub sections of an ARRAY or RECORD, by rising sub
abbrev pub objects_by : List ℕ → ℕ → Place → Result Description Refusal → List Object
objects_by text index place (Err e) = []
objects_by text index place (Ok description) =
    if holds_subs description.object_type then flat_map (sub_object text index) (subs_of text index)
    else object_in index 0 place (Ok description)

abbrev pub objects_from : List ℕ → ℕ → Option Place → List Object
objects_from text index None = []
objects_from text index (Some place) = objects_by text index place (described text place)

unfoldable pub objects_at : List ℕ → ℕ → List Object
objects_at text index = objects_from text index (own_place text index)

-- the indexes of a list in rising order, each once
unfoldable pub rising : List ℕ → List ℕ
rising indexes = fold (insert_key nat_cmp) [] indexes

abbrev pub objects_listed : List ℕ → Result (List ℕ) Refusal → List Object
objects_listed text (Ok indexes) = flat_map (objects_at text) (rising indexes)
objects_listed text (Err e) = []

-- the objects of a device, by rising index and sub
abbrev pub objects_of : List ℕ → List Object
objects_of text = objects_listed text (listed text)

abbrev pub is_at : ℕ → ℕ → Object → Bool
is_at index sub object = (object.index == index) && (object.sub == sub)

-- an object whose index is less, or the same with a lesser sub
abbrev pub is_before : ℕ → ℕ → Object → Bool
is_before index sub object = nat_lt object.index index || ((object.index == index) && nat_lt object.sub sub)

-- each object stands before all later ones, so no two have one index and sub
abbrev pub AreSorted : List Object → Type 0
AreSorted objects = AllPairs (λ object later. is_before later.index later.sub object ≡ true) objects

-- the section of an object
abbrev pub object_section : List ℕ → ℕ → ℕ → Option ℕ
object_section text index sub = option_map (λ object. object.place.section) (find (is_at index sub) (objects_of text))
