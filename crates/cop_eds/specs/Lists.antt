-- The lists of objects, and the sections of the objects that they name.
use Rattle.std.specs.Prelude.{◌≡◌, ℕ, zero, suc, ◌+◌, List, [], ◌∷◌, ◌++◌, length, nat_lt, if◌then◌else◌, Option, Some, None, Result, Ok, codes, decimal}
use Rattle.cop_eds.specs.declared.fault.Refusal.{Refusal}
use Rattle.cop_eds.specs.declared.line.Place.{Place}
use Rattle.cop_eds.specs.Names.{object_code, sub_code}
use Rattle.cop_eds.specs.Sections.{place_of, coded_place, entry_of}
use Rattle.cop_eds.specs.Steps.{◌>>=◌, number_at, needed, each, items_from}
use Rattle.cop_eds.specs.Description.{described}

-- where the sub section begins, where there is one, beside its sub
abbrev pub sub_found : ℕ → Option Place → List (ℕ × Place)
sub_found sub None = []
sub_found sub (Some place) = (sub, place) ∷ []

-- the sub sections of an index at so many subs from one on, by rising sub
unfoldable pub subs_from : List ℕ → ℕ → ℕ → ℕ → List (ℕ × Place)
subs_from text index sub zero = []
subs_from text index sub (suc count) =
    sub_found sub (coded_place text (sub_code index sub)) ++ subs_from text index (sub + 1) count

-- the sub sections of an index, by rising sub
abbrev pub subs_of : List ℕ → ℕ → List (ℕ × Place)
subs_of text index = subs_from text index 0 256

abbrev pub described_sub : List ℕ → ℕ × Place → Result (Unit {0}) Refusal
described_sub text sub = described text sub.1 >>= λ _. Ok tt

-- where the own section of the object at an index begins; an index above FFFFh has none
abbrev pub own_place : List ℕ → ℕ → Option Place
own_place text index = if nat_lt 65535 index then None else coded_place text (object_code index)

-- the object that an entry at this line names has a section; its keys and those of its sub sections keep their rules
unfoldable pub checked_object : List ℕ → ℕ → ℕ → Result (Unit {0}) Refusal
checked_object text line index = do
  place ← needed line (own_place text index)
  _ ← described text place
  each (described_sub text) (subs_of text index)

-- the object that an index names has a section, and it keeps its rules, whichever line names it
abbrev pub IsSound : List ℕ → ℕ → Type 0
IsSound text index = (line : ℕ) → checked_object text line index ≡ Ok tt

-- the index at a place of a list
unfoldable pub listed_at : List ℕ → Place → ℕ → Result ℕ Refusal
listed_at text list i = do
  entry ← needed list.line (entry_of text list.section (decimal i))
  index ← number_at entry
  _ ← checked_object text entry.0 index
  Ok index

-- the first so many indexes of a list, after those found before
abbrev pub listed_from : List ℕ → Place → List ℕ → ℕ → Result (List ℕ) Refusal
listed_from text list = items_from (λ found. listed_at text list (length found + 1))

unfoldable pub listed_in : List ℕ → Option Place → Result (List ℕ) Refusal
listed_in text None = Ok []
listed_in text (Some list) = do
  entry ← needed list.line (entry_of text list.section (codes "SupportedObjects"))
  count ← number_at entry
  listed_from text list [] count

-- all the indexes that the three lists name, in the order of the lists (CiA 306)
unfoldable pub listed : List ℕ → Result (List ℕ) Refusal
listed text = do
  mandatory ← listed_in text (place_of text (codes "MandatoryObjects"))
  optional ← listed_in text (place_of text (codes "OptionalObjects"))
  manufacturer ← listed_in text (place_of text (codes "ManufacturerObjects"))
  Ok (mandatory ++ optional ++ manufacturer)
