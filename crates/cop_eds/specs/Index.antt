-- What a line is found by, as a list of numbers: where it is looked for, and its name.
use Rattle.std.specs.Prelude.{ℕ, ◌+◌, ◌-◌, ◌≤◌, ◌<◌, ◌≡◌, Bool, false, List, [], ◌∷◌, Option, Some, None, IsSome, slice_get, Contains}
use Rattle.std.specs.List.{All}
use Rattle.std.specs.List.Sorted.{IsSorted}
use Rattle.std.specs.Ordering.{nat_cmp, on, then_cmp, is_lt}
use Rattle.std.specs.Cmp.Lexicographic.{slice_cmp}
use Rattle.std.specs.Str.{str_to_ascii_lowercase, bytes_eq}
use Rattle.std.specs.declared.cmp.Ordering.{Ordering}
use Rattle.cop_eds.specs.declared.line.Kind.{Kind}
use Rattle.cop_eds.specs.declared.line.Kind.TheVariants.{Other, Header, Pair}
use Rattle.cop_eds.specs.declared.line.Line.{Line}
use Rattle.cop_eds.specs.declared.entry.Entry.{Entry}
use Rattle.cop_eds.specs.Text.{name_of, key_of}
use Rattle.cop_eds.specs.Names.{code_of}
use Rattle.cop_eds.specs.Lines.{text_of, first_from}

-- objects' sections come first, by their numbers; then the other sections, then the keys of each section
abbrev pub named_key : Option ℕ → List ℕ → List ℕ
named_key (Some code) name = 0 ∷ code ∷ []
named_key None name = 1 ∷ 0 ∷ str_to_ascii_lowercase name

abbrev pub header_key : List ℕ → List ℕ
header_key name = named_key (code_of name) name

abbrev pub pair_key : ℕ → List ℕ → List ℕ
pair_key section key = 2 ∷ section ∷ str_to_ascii_lowercase key

abbrev pub of_kind : Kind → List ℕ → List ℕ → Option (List ℕ)
of_kind Other header pair = None
of_kind Header header pair = Some header
of_kind Pair header pair = Some pair

-- what a line of a text is found by
abbrev pub line_key : List ℕ → Line → Option (List ℕ)
line_key text line = of_kind line.kind (header_key (name_of (text_of text line))) (pair_key line.section (key_of (text_of text line)))

abbrev pub has_key : Option (List ℕ) → List ℕ → Bool
has_key None key = false
has_key (Some found) key = bytes_eq found key

abbrev pub is_found_by : List ℕ → List ℕ → Line → Bool
is_found_by text key line = has_key (line_key text line) key

abbrev pub sort_key : Entry → List ℕ
sort_key entry = entry.group ∷ entry.code ∷ str_to_ascii_lowercase entry.name.now

-- the entry stands before those of this key
abbrev pub is_below : List ℕ → Entry → Bool
is_below key entry = is_lt (slice_cmp nat_cmp (sort_key entry) key)

-- the number of the first object's section from a number on, and its header
abbrev pub IsNext : List ℕ → List Line → ℕ → Option (ℕ × (ℕ × Line)) → Type 0
IsNext text lines code None = (c : ℕ) → code ≤ c → first_from 1 (is_found_by text (0 ∷ c ∷ [])) lines ≡ None
IsNext text lines code (Some next) =
    (code ≤ next.0) × (first_from 1 (is_found_by text (0 ∷ next.0 ∷ [])) lines ≡ Some next.1)
    × ((c : ℕ) → code ≤ c → c < next.0 → first_from 1 (is_found_by text (0 ∷ c ∷ [])) lines ≡ None)

-- by what they are found by, and then by their lines
abbrev pub entry_cmp : Entry → Entry → Ordering
entry_cmp = then_cmp (on sort_key (slice_cmp nat_cmp)) (on (λ entry. entry.line) nat_cmp)

-- the entry is that of a line
abbrev pub IsEntry : List ℕ → List Line → Entry → Type 0
IsEntry text lines entry = (1 ≤ entry.line) × ((line : Line) × (slice_get lines (entry.line - 1) ≡ Some line) × (line_key text line ≡ Some (sort_key entry)))

-- the entries, in order, of exactly those lines that are found by a name
pub record IsIndex (text : List ℕ) (lines : List Line) (entries : List Entry) : Type 0 where
  pub sorted : IsSorted entry_cmp entries
  pub sound : All (IsEntry text lines) entries
  pub complete : (place : ℕ) (line : Line) → slice_get lines place ≡ Some line → IsSome (line_key text line) → (entry : Entry) × Contains entries entry × (entry.line ≡ place + 1)
