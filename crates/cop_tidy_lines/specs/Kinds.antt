-- What one line of a maker's text is, by the section in which it stands.
use Rattle.std.specs.Prelude.{ℕ, Bool, true, not, ◌||◌, ◌&&◌, ◌==◌, nat_le, nat_lt, List, length, drop, slice_index, if◌then◌else◌, Option, Some, None}
use Rattle.std.specs.List.{list_any, list_all, before_first, after_first}
use Rattle.cop_eds.specs.Text.{is_blank, trim, trim_start, is_comment, is_pair, key_of, value_of}
use Rattle.cop_tidy_lines.specs.declared.names.SectionName.{SectionName}
use Rattle.cop_tidy_lines.specs.declared.kinds.LineKind.{LineKind}
use Rattle.cop_tidy_lines.specs.declared.kinds.LineKind.TheVariants.{Silent, Header, Pair, Unknown}
use Rattle.cop_tidy_lines.specs.Words.{undivided}
use Rattle.cop_tidy_lines.specs.Names.{section_name, is_read}
use Rattle.cop_tidy_lines.specs.Keys.{key_meant, is_object_word}

-- ---- headers

-- what stands between brackets at the front
abbrev pub bracket_name : List ℕ → List ℕ
bracket_name line = before_first (λ b. b == 93) (drop 1 line)

-- what stands behind the brackets, without blanks at its front
abbrev pub bracket_tail : List ℕ → List ℕ
bracket_tail line = trim_start (after_first (λ b. b == 93) (drop 1 line))

-- a name between brackets stands at the front
abbrev pub is_bracketed : List ℕ → Bool
is_bracketed line =
    (slice_index line 0 == 91) && (nat_lt 0 (length (bracket_name line)) && nat_lt (length (bracket_name line)) (length (drop 1 line)))

-- something reads a section of this name, or the digits of its sub have two meanings
abbrev pub is_read_name : Option SectionName → Bool
is_read_name None = true
is_read_name (Some name) = is_read name

-- nothing, or a comment of CiA 306
abbrev pub is_bare_tail : List ℕ → Bool
is_bare_tail tail = (length tail == 0) || (slice_index tail 0 == 59)

-- a line with a name in brackets is a header: where it is no key, where nothing but a comment is behind it, or where something reads the section
abbrev pub is_meant_as_header : List ℕ → Bool
is_meant_as_header line =
    not (is_pair line)
    || (is_bare_tail (bracket_tail line)
    || (is_read_name (section_name (bracket_name line)) && not (slice_index (bracket_tail line) 0 == 61)))

-- a comment of another kind begins with # or with //
abbrev pub begins_with_mark : List ℕ → Bool
begins_with_mark rest = (slice_index rest 0 == 35) || ((slice_index rest 0 == 47) && (slice_index rest 1 == 47))

-- what stands behind a header may be another header or a key
abbrev pub is_open_tail : List ℕ → Bool
is_open_tail tail = not (is_bare_tail tail || begins_with_mark tail) && list_any (λ b. (b == 91) || ((b == 93) || (b == 61))) tail

-- the header of a section; a name with two meanings is none
abbrev pub header_named : Option SectionName → LineKind
header_named None = Unknown
header_named (Some name) = Header name

-- what a line is that is meant as a header
abbrev pub header_kind : List ℕ → LineKind
header_kind line = if is_open_tail (bracket_tail line) then Unknown else header_named (section_name (bracket_name line))

-- ---- lines that are none of CiA 306

-- blanks, and the signs of which rules are drawn: - = * _ ~ + # / .
abbrev pub is_rule_sign : ℕ → Bool
is_rule_sign b =
    (((b == 45) || (b == 61)) || ((b == 42) || (b == 95)))
    || (((b == 126) || (b == 43)) || ((b == 35) || ((b == 47) || ((b == 46) || is_blank b))))

-- a comment of another kind, or a rule that is drawn
abbrev pub is_drawn : List ℕ → Bool
is_drawn line = begins_with_mark line || (nat_le 3 (length line) && list_all is_rule_sign line)

-- the key before a colon, or the whole line
abbrev pub colon_key : List ℕ → List ℕ
colon_key line = trim (before_first (λ b. b == 58) line)

-- an object's key without its equals sign
abbrev pub bare_key_kind : SectionName → List ℕ → LineKind
bare_key_kind name line =
    if is_object_word (undivided (colon_key line)) then Pair (key_meant name (colon_key line)) else Unknown

-- a line that is neither comment, header nor key: text before the first header and in sections that nothing reads says nothing
abbrev pub bad_kind : Option SectionName → List ℕ → LineKind
bad_kind None line = Silent
bad_kind (Some name) line = if is_read name then bare_key_kind name line else Silent

-- a line that is no comment, header or key of CiA 306
abbrev pub other_kind : Option SectionName → List ℕ → LineKind
other_kind section line =
    if is_drawn line then Silent else if slice_index line 0 == 91 then Unknown else bad_kind section line

-- ---- all lines

-- a line with a key and an equals sign, which states a key in a section alone (CiA 306)
abbrev pub pair_kind : Option SectionName → List ℕ → LineKind
pair_kind None line = other_kind None line
pair_kind (Some name) line = Pair (key_meant name (key_of line))

-- what a line is without blanks at its front, in a section of this name, or before the first one
unfoldable pub kind_meant : Option SectionName → List ℕ → LineKind
kind_meant section line =
    if is_comment line then Silent
    else if is_bracketed line && is_meant_as_header line then header_kind line
    else if is_pair line then pair_kind section line
    else other_kind section line

-- the key that such a line states, as it stands there
unfoldable pub stated_key : List ℕ → List ℕ
stated_key line = if is_pair line then key_of line else colon_key line

-- the value that such a line states, as it stands there
unfoldable pub stated_value : List ℕ → List ℕ
stated_value line = if is_pair line then value_of line else trim (after_first (λ b. b == 58) line)
