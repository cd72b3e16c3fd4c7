-- All hazards of a text, of which the first is `hazard_of`'s.
use Rattle.std.specs.Prelude.{ℕ, ◌+◌, Bool, List, [], ◌∷◌, ◌++◌, codes, if◌then◌else◌, Option, Some, None}
use Rattle.std.specs.Option.{option_to_list}
use Rattle.cop_eds.specs.declared.line.Line.{Line}
use Rattle.cop_eds.specs.declared.line.Place.{Place}
use Rattle.cop_eds.specs.Lines.{lines_of}
use Rattle.cop_eds.specs.Sections.{place_of}
use Rattle.cop_eds_hazards.specs.declared.hazards.Hazard.{Hazard}
use Rattle.cop_eds_hazards.specs.declared.tests.Test.{Test}
use Rattle.cop_eds_hazards.specs.declared.tests.Test.TheVariants as tests
use Rattle.cop_eds_hazards.specs.Listed.{count_of}
use Rattle.cop_eds_hazards.specs.Compact.{implicit_line}
use Rattle.cop_eds_hazards.specs.Hazards.{passes, hazard_at}

-- a hazard of this number at each line that passes, where the first line has this place
abbrev pub hazards_from : ℕ → (Line → Bool) → ℕ → List Line → List Hazard
hazards_from number test place [] = []
hazards_from number test place (line ∷ lines) =
    if test line then (record { number = number; line = place }) ∷ hazards_from number test (place + 1) lines
    else hazards_from number test (place + 1) lines

abbrev pub hazards_by : ℕ → Test → List ℕ → List Hazard
hazards_by number test text = hazards_from number (passes text test) 1 (lines_of text)

-- hazard 83 at each entry behind the number of entries of the list that begins there
abbrev pub all_beyond_in : List ℕ → Option Place → List Hazard
all_beyond_in text None = []
all_beyond_in text (Some place) = hazards_by 83 (tests.Beyond place.section (count_of text place.section)) text

abbrev pub all_beyond_of : List ℕ → List ℕ → List Hazard
all_beyond_of text name = all_beyond_in text (place_of text name)

abbrev pub all_beyond : List ℕ → List Hazard
all_beyond text =
    all_beyond_of text (codes "MandatoryObjects") ++ all_beyond_of text (codes "OptionalObjects")
    ++ all_beyond_of text (codes "ManufacturerObjects")

-- all hazards, by rising number and line, those of 83 list by list
unfoldable pub hazards_of : List ℕ → List Hazard
hazards_of text =
    hazards_by 80 tests.Unlisted text ++ hazards_by 81 tests.Unidentified text ++ option_to_list (hazard_at 82 (implicit_line text))
    ++ all_beyond text ++ hazards_by 84 tests.Unseen text

abbrev pub first_of : List Hazard → Option Hazard
first_of [] = None
first_of (hazard ∷ hazards) = Some hazard
