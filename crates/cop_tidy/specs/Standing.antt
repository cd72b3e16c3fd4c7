-- What stands against a text: the first refusal of the strict reading, a hazard, or that it is read as another device than it describes.
use Rattle.std.specs.Prelude.{ℕ, ◌≡◌, ◌⊎◌, Bool, true, false, List, Option, Some, None, Result, Ok, Err, if◌then◌else◌}
use Rattle.std.specs.List.{list_all}
use Rattle.std.specs.Option.{option_map, option_or}
use Rattle.cop_eds.specs.declared.fault.Refusal.{Refusal}
use Rattle.cop_eds.specs.Rules.{number_of}
use Rattle.cop_eds.specs.Reading.{reading}
use Rattle.cop_dict.specs.Find.{Entry}
use Rattle.cop_dict.specs.Build.{built}
use Rattle.cop_eds_hazards.specs.declared.hazards.Hazard.{Hazard}
use Rattle.cop_eds_hazards.specs.Hazards.{hazard_of}
use Rattle.cop_tidy_lines.specs.declared.choices.Unlisted.{Unlisted}
use Rattle.cop_tidy_lines.specs.declared.choices.Unlisted.TheVariants.{Add, Leave}
use Rattle.cop_tidy_reading.specs.declared.words.Words.{Words}
use Rattle.cop_tidy.specs.declared.judging.Left.{Left}
use Rattle.cop_tidy.specs.Identified.{identified}
use Rattle.cop_tidy.specs.Meant.{IsMeant}
use Rattle.cop_tidy.specs.declared.taking.Taken.{Taken}
use Rattle.cop_tidy.specs.Kept.{AreAllKept, Keeps}

-- the choice is made to leave sections of PDOs as they are that no list names
abbrev pub is_leave : Option Unlisted → Bool
is_leave None = false
is_leave (Some Add) = false
is_leave (Some Leave) = true

abbrev pub is_leaving : Words → Bool
is_leaving words = is_leave words.unlisted

-- what a refusal of the strict reading leaves
abbrev pub left_of : Refusal → Left
left_of refusal = record { number = number_of refusal.rule; line = refusal.line }

abbrev pub left_at : Hazard → Left
left_at hazard = record { number = hazard.number; line = hazard.line }

-- hazard 81 of a dictionary: the record of a PDO in it has no identifier
abbrev pub unidentified : List Entry → Option Left
unidentified dict = if list_all (identified dict) dict then None else Some (record { number = 81; line = 0 })

-- what stands against a text that is read, of which these are the dictionaries of the first and of the last node
abbrev pub standing_built : Bool → List ℕ → Result (List Entry) Refusal → Result (List Entry) Refusal → Option Left
standing_built is_left text (Err refusal) last = Some (left_of refusal)
standing_built is_left text (Ok first) (Err refusal) = Some (left_of refusal)
standing_built is_left text (Ok first) (Ok last) =
    option_or (option_map left_at (hazard_of is_left text)) (option_or (unidentified first) (unidentified last))

abbrev pub standing_read : Bool → List ℕ → Result (List ℕ) Refusal → Option Left
standing_read is_left text (Err refusal) = Some (left_of refusal)
standing_read is_left text (Ok same) = standing_built is_left text (built text 1) (built text 127)

-- a refusal of the first dictionary, or else of the last one
abbrev pub AreRefused : Result (List Entry) Refusal → Result (List Entry) Refusal → Refusal → Type 0
AreRefused (Err e) last refusal = e ≡ refusal
AreRefused (Ok first) (Err e) refusal = e ≡ refusal
AreRefused (Ok first) (Ok last) refusal = Unit {0} → ⊥

-- what stands against a text by itself, where these choices are made; nothing against one that is accepted and has no hazard
unfoldable pub standing : Words → List ℕ → Option Left
standing words text = standing_read (is_leaving words) text (reading text)

-- hazard 84, at no line: the strict reading takes the text for another device than it describes
abbrev pub misread : Left
misread = record { number = 84; line = 0 }

-- What is found against a text: nothing, where nothing stands against it by itself and it means what it is read as; else what stands, or that it
-- is misread.
abbrev pub IsFound : Option Left → Type 0 → Option Left → Type 0
IsFound stands Means None = (stands ≡ None) × Means
IsFound stands Means (Some left) = (stands ≡ Some left) ⊎ ((stands ≡ None) × ((left ≡ misread) × (Means → ⊥)))

-- this is what stands against a text, where these choices are made
abbrev pub Stands : Words → List ℕ → Option Left → Type 0
Stands words text found = IsFound (standing words text) (IsMeant words text text) found

-- What is told of a text that came to a result: what stands against it; or, where it is accepted and an object or the rates of it are others in
-- the result, that it is misread.
abbrev pub IsTold : Words → List ℕ → List ℕ → Option Left → Type 0
IsTold words text result found = (Stands words text found × Keeps text result) ⊎ ((found ≡ Some misread) × (Keeps text result → ⊥))

-- the same where this was found, and this is taken of the text, where it is accepted, and of the result
abbrev pub IsToldBy : Left → Option Taken → Taken → Left → Type 0
IsToldBy found None after told = told ≡ found
IsToldBy found (Some before) after told = (AreAllKept before after × (told ≡ found)) ⊎ ((AreAllKept before after → ⊥) × (told ≡ misread))
