-- The line of a step, read where it lies: a text begins with it, and something is left behind it.
use Rattle.std.specs.Prelude.{◌≡◌, ℕ, ◌<◌, List, length, ◌∷◌, ◌++◌, Bool, true, false, not, ◌||◌, Ok, codes}
use Rattle.std.specs.List.{list_all}
use Rattle.csv.specs.Writing.{comma}
use Rattle.csv.specs.Machine.{line_feed}
use Rattle.cop_table.specs.Plain.{is_comma, is_line_end, pieces}
use Rattle.cop_table.specs.Lines.{first_line}
use Rattle.cop_table.specs.Numbers.{is_hexadecimal}
use Rattle.cop_bus.specs.declared.steps.Step.{Step}
use Rattle.cop_bus.specs.declared.entries.Entry.TheVariants.{Taken}
use Rattle.cop_watch.specs.declared.lines.Kind.{Kind}
use Rattle.cop_watch.specs.declared.lines.Kind.TheVariants as kinds
use Rattle.cop_bus.specs.Entries.{number_in, id_in, bits_in, entry_in}

-- the first field of a step's line, with the comma
abbrev pub kind_text : Kind → List ℕ
kind_text kinds.Queue = codes "queue,"
kind_text kinds.Start = codes "start,"
kind_text kinds.End = codes "end,"

-- a byte that ends no field and no line
abbrev pub is_inner : ℕ → Bool
is_inner c = not (is_comma c || is_line_end c)

-- first a field, up to a comma
pub record HasField (text field left : List ℕ) : Type 0 where
  pub divided : field ++ comma ∷ left ≡ text
  pub inner : list_all is_inner field ≡ true

-- one of decimal digits
pub record HasNumber (text : List ℕ) (number : ℕ) (left : List ℕ) : Type 0 where
  pub field : List ℕ
  pub has : HasField text field left
  pub is : number_in field ≡ Ok number
  pub decimal : is_hexadecimal field ≡ false

-- one that is an identifier
pub record HasId (text : List ℕ) (id : ℕ) (left : List ℕ) : Type 0 where
  pub field : List ℕ
  pub has : HasField text field left
  pub is : id_in field ≡ Ok id

-- one that is a length
pub record HasBits (text : List ℕ) (bits : ℕ) (left : List ℕ) : Type 0 where
  pub field : List ℕ
  pub has : HasField text field left
  pub is : bits_in field ≡ Ok bits

-- first a field, up to the end of a line
pub record HasLast (text field left : List ℕ) : Type 0 where
  pub divided : field ++ line_feed ∷ left ≡ text
  pub inner : list_all is_inner field ≡ true

-- first a moment, then an identifier, and three empty fields up to the end of a line
pub record HasMoment (text : List ℕ) (at id : ℕ) (left : List ℕ) : Type 0 where
  pub behind : List ℕ
  pub moment : HasNumber text at behind
  pub identifier : HasId behind id (comma ∷ comma ∷ line_feed ∷ left)

-- first the line of a step
pub record IsStepLine (text : List ℕ) (step : Step) (left : List ℕ) : Type 0 where
  pub line : List ℕ
  pub some : 0 < length line
  pub divided : line ++ line_feed ∷ left ≡ text
  pub whole : first_line line ≡ line
  pub says : entry_in (pieces is_comma line) ≡ Ok (Taken step)
