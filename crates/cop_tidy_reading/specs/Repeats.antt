-- Sections and keys that stand twice: the first one counts, where the other says the same.
use Rattle.std.specs.Prelude.{Bool, true, false, ◌||◌, ◌&&◌, ◌==◌, List, [], ◌∷◌, map, filter, if◌then◌else◌, Result, Ok}
use Rattle.std.specs.Option.{option_map_or}
use Rattle.std.specs.Str.{bytes_eq}
use Rattle.cop_eds.specs.Text.{same_name}
use Rattle.cop_tidy_lines.specs.declared.names.SectionName.{SectionName}
use Rattle.cop_tidy_lines.specs.declared.keys.Key.{Key}
use Rattle.cop_tidy_lines.specs.declared.kinds.LineKind.{LineKind}
use Rattle.cop_tidy_lines.specs.declared.kinds.LineKind.TheVariants.{Header, Pair}
use Rattle.cop_tidy_lines.specs.Kinds.{stated_key, stated_value}
use Rattle.cop_tidy_reading.specs.declared.question.About.TheVariants as abouts
use Rattle.cop_tidy_reading.specs.declared.question.Question.{Question}
use Rattle.cop_tidy_reading.specs.Questions.{all_of, unless, ◌>>=◌}
use Rattle.cop_tidy_reading.specs.Items.{Said}
use Rattle.cop_tidy_reading.specs.Sections.{is_pair, section_named, pairs_of, pair_of}

-- both lines state the same value of the same key
abbrev pub says_same : Said → Said → Bool
says_same a b = same_name (stated_key a.body) (stated_key b.body) && bytes_eq (stated_value a.body) (stated_value b.body)

-- the keys among some lines
abbrev pub pairs_among : List Said → List Said
pairs_among items = filter (λ said. is_pair said.kind) items

-- the same keys with the same values, in the same order
unfoldable pub are_same : List Said → List Said → Bool
are_same [] [] = true
are_same (a ∷ left) (b ∷ right) = says_same a b && are_same left right
are_same _ _ = false

-- the line states what the first of these keys states
abbrev pub agrees_with : Said → List Said → Bool
agrees_with item [] = false
agrees_with item (other ∷ keys) = says_same item other

-- it is no key, or states the same
abbrev pub agrees : Said → List Said → Bool
agrees item keys = if is_pair item.kind then agrees_with item keys else true

abbrev pub without_first : List Said → List Said
without_first [] = []
without_first (other ∷ keys) = keys

-- the keys behind that one, or all where the line is no key
abbrev pub behind : Said → List Said → List Said
behind item keys = if is_pair item.kind then without_first keys else keys

-- a header of a section that says what the first of its name says
abbrev pub is_first_or_same : List Said → Said → SectionName → Bool
is_first_or_same items item name =
    option_map_or (λ first. (first.number == item.section) || are_same (pairs_of items first.number) (pairs_of items item.section)) (section_named items name) true

-- a key with the value that the first of its name in the section has
abbrev pub is_as_first : List Said → Said → Key → Bool
is_as_first items item key =
    option_map_or (λ first. bytes_eq (stated_value first.body) (stated_value item.body)) (pair_of items item.section key) true

abbrev pub stands_once : List Said → Said → LineKind → Bool
stands_once items item (Header name) = is_first_or_same items item name
stands_once items item (Pair key) = is_as_first items item key
stands_once items item _ = true

-- a question at a line that says otherwise than an earlier one of its name
abbrev pub check_line : List Said → Said → Result (Unit {0}) Question
check_line items item = unless (stands_once items item item.kind) abouts.Repeated item.line

-- 72 at the first line that says otherwise than an earlier one of its name
unfoldable pub check_repeats : List Said → Result (Unit {0}) Question
check_repeats items = all_of (map (check_line items) items) >>= λ _. Ok tt
