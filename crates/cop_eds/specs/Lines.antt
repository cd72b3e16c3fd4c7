-- A text as a list of lines, and the first fault of its lines.
use Rattle.std.specs.Prelude.{ℕ, ◌+◌, ◌-◌, ◌≡◌, ◌≤◌, Bool, true, false, ◌&&◌, List, [], ◌∷◌, ◌++◌, length, drop, slice_range, ◌==◌, if◌then◌else◌, Option, Some, None, Result, Ok, Err}
use Rattle.std.specs.List.{list_any}
use Rattle.std.specs.Option.{option_or}
use Rattle.cop_eds.specs.declared.fault.EdsFault.{EdsFault}
use Rattle.cop_eds.specs.declared.fault.EdsFault.TheVariants as faults
use Rattle.cop_eds.specs.declared.fault.Rule.{Rule}
use Rattle.cop_eds.specs.declared.fault.Rule.TheVariants as rules
use Rattle.cop_eds.specs.declared.fault.Refusal.{Refusal}
use Rattle.cop_eds.specs.declared.line.Kind.{Kind}
use Rattle.cop_eds.specs.declared.line.Kind.TheVariants.{Other, Header, Pair}
use Rattle.cop_eds.specs.declared.line.Line.{Line}
use Rattle.cop_eds.specs.Text.{mark_len, cut, end_len, is_comment, is_header, is_pair, name_of, key_of, same_name}
use Rattle.cop_eds.specs.Names.{same_section}

abbrev pub kind_of : List ℕ → Kind
kind_of line = if is_comment line then Other else if is_header line then Header else if is_pair line then Pair else Other

-- how many headers a line is
abbrev pub header_count : Kind → ℕ
header_count Header = 1
header_count Pair = 0
header_count Other = 0

-- the line of len bytes at a place, with an end of so many bytes, where so many sections began before
abbrev pub line_of : ℕ → ℕ → List ℕ → Line
line_of at before raw =
    let len = length raw - end_len raw in
    let kind = kind_of (slice_range raw 0 len) in
    record { from = at; to = at + len; next = at + length raw; kind = kind; section = before + header_count kind }

abbrev pub lines_from : ℕ → ℕ → List (List ℕ) → List Line
lines_from at before [] = []
lines_from at before (raw ∷ raws) =
    line_of at before raw ∷ lines_from (at + length raw) (line_of at before raw).section raws

-- the lines of a text
abbrev pub lines_of : List ℕ → List Line
lines_of text = lines_from (mark_len text) 0 (cut (drop (mark_len text) text))

-- the bytes of a line, without its end
abbrev pub text_of : List ℕ → Line → List ℕ
text_of text line = slice_range text line.from line.to

abbrev pub is_kind : Kind → Kind → Bool
is_kind Other Other = true
is_kind Header Header = true
is_kind Pair Pair = true
is_kind _ _ = false

-- the line is a header of this name
abbrev pub is_named : List ℕ → List ℕ → Line → Bool
is_named text name line = is_kind line.kind Header && same_section (name_of (text_of text line)) name

-- the line is a pair of this key in this section
abbrev pub is_keyed : List ℕ → ℕ → List ℕ → Line → Bool
is_keyed text section key line =
    is_kind line.kind Pair && (line.section == section) && same_name (key_of (text_of text line)) key

-- which rule a line breaks, after the earlier lines
abbrev pub broken_by_kind : Kind → List ℕ → List Line → Line → Option Rule
broken_by_kind Other text earlier line = if is_comment (text_of text line) then None else Some rules.Line
broken_by_kind Header text earlier line =
    if list_any (is_named text (name_of (text_of text line))) earlier then Some rules.SectionRepeated else None
broken_by_kind Pair text earlier line =
    if line.section == 0 then Some rules.Line
    else if list_any (is_keyed text line.section (key_of (text_of text line))) earlier then Some rules.KeyRepeated
    else None

abbrev pub broken : List ℕ → List Line → Line → Option Rule
broken text earlier line = broken_by_kind line.kind text earlier line

-- a refusal stands at the number of its line, from 1
abbrev pub refused_at : ℕ → Option Rule → Option Refusal
refused_at number None = None
refused_at number (Some rule) = Some (record { rule = rule; line = number })

-- the refusal of the first line that breaks a rule
abbrev pub first_refusal : List ℕ → List Line → List Line → Option Refusal
first_refusal text earlier [] = None
first_refusal text earlier (line ∷ lines) =
    option_or (refused_at (length earlier + 1) (broken text earlier line)) (first_refusal text (earlier ++ line ∷ []) lines)

abbrev pub kept_or_refused : {A : Type 0} → A → Option Refusal → Result A Refusal
kept_or_refused kept None = Ok kept
kept_or_refused kept (Some refusal) = Err refusal

abbrev pub checked_lines : List ℕ → Result (List Line) Refusal
checked_lines text = kept_or_refused (lines_of text) (first_refusal text [] (lines_of text))

-- What a function returned, seen by view, is what reading gives, unless memory ran out.
abbrev pub Fails : {Y : Type 0} → EdsFault → Result Y Refusal → Type 0
Fails faults.Memory read = Unit {0}
Fails (faults.Refused r) read = read ≡ Err r

abbrev pub Gives : {X Y : Type 0} → (X → Y) → Result X EdsFault → Result Y Refusal → Type 0
Gives view (Ok x) read = read ≡ Ok (view x)
Gives view (Err e) read = Fails e read

-- the line lies in a text of this length
abbrev pub IsWithin : ℕ → Line → Type 0
IsWithin size line = (line.from ≤ line.to) × (line.to ≤ size) × (line.section ≤ size)

-- the line and its end lie in a text of this length, one behind the other
pub record IsInside (size : ℕ) (line : Line) : Type 0 where
  pub bytes : line.from ≤ line.to
  pub ending : line.to ≤ line.next
  pub all : line.next ≤ size

-- the same of a function that takes no memory
abbrev pub Sees : {X Y : Type 0} → (X → Y) → Result X Refusal → Result Y Refusal → Type 0
Sees view (Ok x) read = read ≡ Ok (view x)
Sees view (Err e) read = read ≡ Err e

-- the first line that passes, and its number where the first has this one
abbrev pub first_from : ℕ → (Line → Bool) → List Line → Option (ℕ × Line)
first_from number test [] = None
first_from number test (line ∷ lines) = if test line then Some (number, line) else first_from (number + 1) test lines
