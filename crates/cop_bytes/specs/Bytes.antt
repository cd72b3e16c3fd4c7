-- What the bytes of a maker's text are made into before they are read as lines.
use Rattle.std.specs.Prelude.{ℕ, ◌+◌, ◌-◌, ◌*◌, ◌%◌, Bool, false, true, not, ◌||◌, ◌&&◌, ◌==◌, List, [], ◌∷◌, ◌++◌, length, drop, map, slice_index, if◌then◌else◌, Option, Some, None}
use Rattle.std.specs.List.{list_any, list_all}
use Rattle.std.specs.Char.Utf16.{utf16_lossy_chars, has_unpaired_surrogate}
use Rattle.std.specs.Str.{encode_utf8_all}
use Rattle.cop_bytes.specs.declared.change.TextChange.{TextChange}
use Rattle.cop_bytes.specs.declared.change.TextChange.TheVariants.{Decoded, Cut, OldEnds, LongEnds}

-- ---- UTF-16 (Unicode, "Byte order mark")

abbrev pub unit : Bool → ℕ → ℕ → ℕ
unit is_big first second = if is_big then 256 * first + second else first + 256 * second

-- the units of two bytes each, and of a byte that is left over none
abbrev pub units : Bool → List ℕ → List ℕ
units is_big [] = []
units is_big (first ∷ []) = []
units is_big (first ∷ second ∷ rest) = unit is_big first second ∷ units is_big rest

-- each byte is of a unit, and each surrogate of a pair
abbrev pub is_utf16 : Bool → List ℕ → Bool
is_utf16 is_big bytes = (length bytes % 2 == 0) && not (has_unpaired_surrogate (units is_big bytes))

-- the same letters in UTF-8
abbrev pub decoded : Bool → List ℕ → Option (List ℕ)
decoded is_big bytes = if is_utf16 is_big bytes then Some (encode_utf8_all (utf16_lossy_chars (units is_big bytes))) else None

abbrev pub begins_with : ℕ → ℕ → List ℕ → Bool
begins_with first second text = (slice_index text 0 == first) && (slice_index text 1 == second)

-- a mark of UTF-16 stands at the front
abbrev pub is_marked : List ℕ → Bool
is_marked text = begins_with 0xFF 0xFE text || begins_with 0xFE 0xFF text

-- the text in UTF-8, and as it is where no mark stands at its front
abbrev pub letters_of : List ℕ → Option (List ℕ)
letters_of text =
    if begins_with 0xFF 0xFE text then decoded false (drop 2 text) else
    if begins_with 0xFE 0xFF text then decoded true (drop 2 text) else Some text

-- ---- the end of a text

-- 00h, and 1Ah, the end mark of DOS
abbrev pub is_end_mark : ℕ → Bool
is_end_mark b = (b == 0) || (b == 0x1A)

-- an end mark, CR, LF or a blank
abbrev pub is_padding : ℕ → Bool
is_padding b = is_end_mark b || ((b == 13) || ((b == 10) || ((b == 32) || (b == 9))))

-- an end mark stands first, and nothing but padding from there to the end
abbrev pub is_tail : ℕ → List ℕ → Bool
is_tail b rest = is_end_mark b && list_all is_padding rest

-- the text without the longest such tail
abbrev pub uncut : List ℕ → List ℕ
uncut [] = []
uncut (b ∷ rest) = if is_tail b rest then [] else b ∷ uncut rest

-- ---- ends of lines

-- nothing but CR stands before an LF
abbrev pub ends_line : List ℕ → Bool
ends_line [] = false
ends_line (b ∷ rest) = if b == 13 then ends_line rest else b == 10

-- a CR before another one, where nothing but CR stands before LF
abbrev pub is_spare : ℕ → List ℕ → Bool
is_spare b rest = (b == 13) && ((slice_index rest 0 == 13) && ends_line rest)

-- the text with one CR of each run of them before LF
abbrev pub short_ends : List ℕ → List ℕ
short_ends [] = []
short_ends (b ∷ rest) = if is_spare b rest then short_ends rest else b ∷ short_ends rest

-- LF in the place of CR
abbrev pub new_end : ℕ → ℕ
new_end b = if b == 13 then 10 else b

-- the text with ends of lines that CiA 306 has: where it has no LF each CR ends a line
abbrev pub with_ends : List ℕ → List ℕ
with_ends text = if list_any (λ b. b == 10) text then short_ends text else map new_end text

-- ---- the text that is read as lines

-- a text has no 00h but in its tail
abbrev pub ended : List ℕ → Option (List ℕ)
ended text = if list_any (λ b. b == 0) (uncut text) then None else Some (with_ends (uncut text))

abbrev pub ended_letters : Option (List ℕ) → Option (List ℕ)
ended_letters None = None
ended_letters (Some letters) = ended letters

-- what is read as lines, and nothing where the bytes are no text
unfoldable pub prepared : List ℕ → Option (List ℕ)
prepared text = ended_letters (letters_of text)

-- ---- texts that are read as they are

-- a byte is no end mark, and if it is CR, LF stands behind it
abbrev pub stands : ℕ → List ℕ → Bool
stands b rest = not (is_end_mark b) && (not (b == 13) || (slice_index rest 0 == 10))

abbrev pub are_standing : List ℕ → Bool
are_standing [] = true
are_standing (b ∷ rest) = stands b rest && are_standing rest

-- no mark of UTF-16, no end mark, and no CR but before LF
abbrev pub needs_nothing : List ℕ → Bool
needs_nothing text = not (is_marked text) && are_standing text

-- ---- where bytes show that they are no text

-- what ends a line: LF, or CR where no LF stands
abbrev pub line_end : List ℕ → ℕ
line_end text = if list_any (λ b. b == 10) text then 10 else 13

-- how many lines end before the first 00h
abbrev pub ends_before_zero : ℕ → List ℕ → ℕ
ends_before_zero end [] = 0
ends_before_zero end (b ∷ rest) = if b == 0 then 0 else if b == end then 1 + ends_before_zero end rest else ends_before_zero end rest

-- the line of the first 00h, from 1
abbrev pub line_of_zero : List ℕ → ℕ
line_of_zero text = ends_before_zero (line_end text) text + 1

-- the line of the first 00h before the tail, and 0 where the bytes are no UTF-16
abbrev pub line_of : Option (List ℕ) → ℕ
line_of None = 0
line_of (Some letters) = line_of_zero (uncut letters)

unfoldable pub refused_line : List ℕ → ℕ
refused_line text = line_of (letters_of text)

-- ---- what is told of it

abbrev pub decoding : List ℕ → Option TextChange
decoding text = if is_marked text then Some Decoded else None

-- how many bytes are cut
abbrev pub cutting : List ℕ → Option TextChange
cutting text = if length (uncut text) == length text then None else Some (Cut (length text - length (uncut text)))

-- how many CR the text has
abbrev pub old_ends : List ℕ → ℕ
old_ends [] = 0
old_ends (b ∷ rest) = if b == 13 then 1 + old_ends rest else old_ends rest

-- the last spare CR of a run
abbrev pub is_last_spare : ℕ → List ℕ → Bool
is_last_spare b rest = (b == 13) && ((slice_index rest 0 == 13) && (slice_index rest 1 == 10))

-- how many runs of CR before LF are longer than one
abbrev pub long_ends : List ℕ → ℕ
long_ends [] = 0
long_ends (b ∷ rest) = if is_last_spare b rest then 1 + long_ends rest else long_ends rest

abbrev pub unless_none : ℕ → TextChange → Option TextChange
unless_none count change = if count == 0 then None else Some change

abbrev pub ending : List ℕ → Option TextChange
ending text =
    if list_any (λ b. b == 10) text then unless_none (long_ends text) (LongEnds (long_ends text))
    else unless_none (old_ends text) (OldEnds (old_ends text))

abbrev pub listed : Option TextChange → List TextChange
listed None = []
listed (Some change) = change ∷ []

abbrev pub letter_changes : Option (List ℕ) → List TextChange
letter_changes None = []
letter_changes (Some letters) = listed (cutting letters) ++ listed (ending (uncut letters))

-- what was changed, in its order: UTF-16, a tail, ends of lines
unfoldable pub text_changes : List ℕ → List TextChange
text_changes text = listed (decoding text) ++ letter_changes (letters_of text)
