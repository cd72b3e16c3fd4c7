-- What the lists of objects name (CiA 306: the entries of MandatoryObjects, OptionalObjects and ManufacturerObjects).
use Rattle.std.specs.Prelude.{ℕ, Bool, true, false, not, ◌||◌, ◌&&◌, ◌==◌, nat_lt, nat_le, is_some, List, [], ◌∷◌, ◌++◌, length, map, filter, if◌then◌else◌, Option, Some, None, Result, Ok, Err}
use Rattle.std.specs.List.{list_any, list_all, flat_map}
use Rattle.std.specs.Option.{option_map_or, option_to_list}
use Rattle.cop_frame.specs.declared.rates.Rate.{Rate}
use Rattle.cop_frame.specs.RateSet.{all_rates}
use Rattle.cop_eds.specs.Number.{is_numeral, number_in}
use Rattle.cop_eds.specs.Objects.{rising}
use Rattle.cop_tidy_lines.specs.declared.choices.Digits.{Digits}
use Rattle.cop_tidy_lines.specs.declared.choices.Unlisted.{Unlisted}
use Rattle.cop_tidy_lines.specs.declared.choices.Unlisted.TheVariants.{Add, Leave}
use Rattle.cop_tidy_lines.specs.declared.numerals.Unclear.{Unclear}
use Rattle.cop_tidy_lines.specs.declared.names.ListName.TheVariants as lists
use Rattle.cop_tidy_lines.specs.declared.names.SectionName.TheVariants as names
use Rattle.cop_tidy_lines.specs.declared.keys.Key.{Key}
use Rattle.cop_tidy_lines.specs.declared.keys.Key.TheVariants as keys
use Rattle.cop_tidy_lines.specs.declared.kinds.LineKind.{LineKind}
use Rattle.cop_tidy_lines.specs.declared.kinds.LineKind.TheVariants.{Header, Pair}
use Rattle.cop_tidy_lines.specs.Blanks.{bare}
use Rattle.cop_tidy_lines.specs.Kinds.{stated_value}
use Rattle.cop_tidy_lines.specs.Numerals.{number_meant}
use Rattle.cop_tidy_reading.specs.declared.question.About.TheVariants as abouts
use Rattle.cop_tidy_reading.specs.declared.question.Question.{Question}
use Rattle.cop_tidy_reading.specs.declared.words.Words.{Words}
use Rattle.cop_tidy_reading.specs.Questions.{◌>>=◌, ask, both, all_of, unless}
use Rattle.cop_tidy_reading.specs.Items.{Said}
use Rattle.cop_tidy_reading.specs.Sections.{Section, section_named, pairs_of, pair_of, entry_of}
use Rattle.cop_tidy_reading.specs.Stated.{number_at}
use Rattle.cop_tidy_reading.specs.Standard.{is_guarded}

-- an entry of a list: its number, its line, and its text
pub record Entry : Type 0 where
  pub number : ℕ
  pub line : ℕ
  pub text : List ℕ

-- the line is the first entry of its number in its section
abbrev pub is_first : List Said → Said → Key → Bool
is_first items item key = option_map_or (λ first. first.line == item.line) (pair_of items item.section key) false

-- an empty entry names nothing
abbrev pub entry_with : ℕ → ℕ → List ℕ → List Entry
entry_with number line text = if length text == 0 then [] else record { number = number; line = line; text = text } ∷ []

abbrev pub entry_by : List Said → Said → LineKind → List Entry
entry_by items item (Pair (keys.Entry number)) = if is_first items item (keys.Entry number) then entry_with number item.line (bare (stated_value item.body)) else []
entry_by items item _ = []

-- the entry of a line, where it is the first of its number
abbrev pub entry_at : List Said → Said → List Entry
entry_at items item = entry_by items item item.kind

-- the entries of a list, the first of each number
unfoldable pub entries_of : List Said → ℕ → List Entry
entries_of items section = flat_map (entry_at items) (pairs_of items section)

-- an object's section with this index is there
abbrev pub is_there : List Said → Option ℕ → Bool
is_there items None = false
is_there items (Some index) = is_some (section_named items (names.Object index))

abbrev pub is_index : ℕ → Option ℕ → Bool
is_index index None = false
is_index index (Some other) = index == other

abbrev pub same_index : Option ℕ → Option ℕ → Bool
same_index None other = not (is_some other)
same_index (Some index) other = is_index index other

-- four hexadecimal digits without a mark
abbrev pub is_bare : List ℕ → Bool
is_bare text = (length text == 4) && is_numeral 16 text

abbrev pub ok_number : Result ℕ Unclear → Option ℕ
ok_number (Ok n) = Some n
ok_number (Err unclear) = None

-- the index that an entry names as it stands
abbrev pub plain_index : Option Digits → List ℕ → Option ℕ
plain_index digits text = ok_number (number_meant digits text)

-- an entry is of four digits without a mark only where it names a section so
abbrev pub is_decimal : Option Digits → List Said → Entry → Bool
is_decimal digits items entry = not (is_bare entry.text) || is_there items (plain_index digits entry.text)

-- a list is decimal where each of its entries is
abbrev pub are_decimal : Option Digits → List Said → List Entry → Bool
are_decimal digits items entries = list_all (is_decimal digits items) entries

abbrev pub is_open : Option ℕ → Bool
is_open None = false
is_open (Some index) = is_guarded index

-- an entry that names nothing is dropped, unless it may be an object that does something on the bus, or is no number
abbrev pub nothing_named : ℕ → Option ℕ → Option ℕ → Result (Option ℕ) Question
nothing_named line plain other =
    if (is_open plain || is_open other) || not (is_some plain || is_some other) then ask abouts.Lists line else Ok None

-- of the two readings of four digits that which names a section
abbrev pub index_by : List Said → ℕ → Option ℕ → Option ℕ → Result (Option ℕ) Question
index_by items line plain other =
    if is_there items plain then (if is_there items other && not (same_index plain other) then ask abouts.Lists line else Ok plain)
    else if is_there items other then Ok other
    else nothing_named line plain other

-- the other number that four digits without a mark may be
abbrev pub other_index : Bool → Entry → Option ℕ
other_index decimal entry = if is_bare entry.text && not decimal then number_in 16 entry.text else None

-- the index that an entry of a list names; whether the list is decimal
abbrev pub index_of : Option Digits → List Said → Bool → Entry → Result (Option ℕ) Question
index_of digits items decimal entry = index_by items entry.line (plain_index digits entry.text) (other_index decimal entry)

-- what the entries of a list name
abbrev pub indexes_in : Option Digits → List Said → List Entry → List (Result (Option ℕ) Question)
indexes_in digits items entries = map (index_of digits items (are_decimal digits items entries)) entries

abbrev pub list_sections : List Said → List Section
list_sections items =
    option_to_list (section_named items (names.List lists.Mandatory))
    ++ option_to_list (section_named items (names.List lists.Optional)) ++ option_to_list (section_named items (names.List lists.Manufacturer))

-- what the entries of a list name
abbrev pub indexes_at : Option Digits → List Said → Section → List (Result (Option ℕ) Question)
indexes_at digits items list = indexes_in digits items (entries_of items list.number)

-- what the entries of the three lists name
unfoldable pub indexes_of : Option Digits → List Said → List (Result (Option ℕ) Question)
indexes_of digits items = flat_map (indexes_at digits items) (list_sections items)

abbrev pub found_index : Result (Option ℕ) Question → List ℕ
found_index (Ok (Some index)) = index ∷ []
found_index _ = []

-- the indexes that the three lists name
abbrev pub named_in : Option Digits → List Said → List ℕ
named_in digits items = flat_map found_index (indexes_of digits items)

-- 73 at the first entry that names nothing it may leave out, or two things
abbrev pub check_found : List (Result (Option ℕ) Question) → Result (Unit {0}) Question
check_found found = all_of found >>= λ _. Ok tt

-- ---- what no list names

abbrev pub count_or_0 : Result (Option ℕ) Question → ℕ
count_or_0 (Ok (Some n)) = n
count_or_0 _ = 0

abbrev pub is_upto : ℕ → Entry → Bool
is_upto count entry = nat_lt 0 entry.number && nat_le entry.number count

-- there are fewer entries up to this number
abbrev pub lacks_some : ℕ → List Entry → Bool
lacks_some count entries = nat_lt (length (filter (is_upto count) entries)) count

-- a list says that it has more entries than it has
abbrev pub lacks_entry : Option Digits → List Said → Section → Bool
lacks_entry digits items list = lacks_some (count_or_0 (number_at digits items list.number keys.SupportedObjects)) (entries_of items list.number)

-- some list does
unfoldable pub lacks_any : Option Digits → List Said → Bool
lacks_any digits items = list_any (lacks_entry digits items) (list_sections items)

abbrev pub is_named : List ℕ → ℕ → Bool
is_named indexes index = list_any (λ named. index == named) indexes

-- a header of an object that no list names may be left out; some list lacks an entry
abbrev pub may_be_unlisted : List ℕ → Bool → LineKind → Bool
may_be_unlisted named lacks (Header (names.Object index)) = is_named named index || not (lacks || is_guarded index)
may_be_unlisted named lacks (Header (names.Sub index sub)) = is_named named index || not (is_guarded index)
may_be_unlisted named lacks _ = true

abbrev pub check_header : List ℕ → Bool → Said → Result (Unit {0}) Question
check_header named lacks item = unless (may_be_unlisted named lacks item.kind) abouts.Lists item.line

-- 73 at the first header that no list may leave out without a word
abbrev pub check_unlisted : List Said → List ℕ → Bool → Result (Unit {0}) Question
check_unlisted items named lacks = all_of (map (check_header named lacks) items) >>= λ _. Ok tt

abbrev pub own_index : LineKind → List ℕ
own_index (Header (names.Object index)) = index ∷ []
own_index _ = []

-- the indexes of the objects that have a section of their own
abbrev pub own_indexes : List Said → List ℕ
own_indexes items = flat_map (λ item. own_index item.kind) items

abbrev pub with_unlisted : Option Unlisted → List Said → List ℕ → List ℕ
with_unlisted (Some Add) items named = named ++ own_indexes items
with_unlisted (Some Leave) items named = named
with_unlisted None items named = named

abbrev pub checked_unlisted : Option Unlisted → List Said → List ℕ → Bool → Result (Unit {0}) Question
checked_unlisted (Some Leave) items named lacks = Ok tt
checked_unlisted (Some Add) items named lacks = check_unlisted items named lacks
checked_unlisted None items named lacks = check_unlisted items named lacks

-- ---- rates

abbrev pub has_rate : List Said → Section → Rate → Bool
has_rate items section rate = is_some (entry_of items section.number (keys.BaudRate rate))

abbrev pub states_rates : List Said → Option Section → Bool
states_rates items None = false
states_rates items (Some section) = list_any (has_rate items section) all_rates

-- 73 where nothing says which rates a device supports, and none are chosen
abbrev pub check_rates : List Rate → List Said → Result (Unit {0}) Question
check_rates chosen items =
    unless (nat_lt 0 (length chosen) || states_rates items (section_named items names.DeviceInfo)) abouts.Lists
    (option_map_or (λ section. section.line) (section_named items names.DeviceInfo) 0)

-- ---- all

-- the indexes of a device in rising order: those that the lists name and that have a section, and all that have one where that is chosen
unfoldable pub named_by : Words → List Said → List ℕ
named_by words items = rising (with_unlisted words.unlisted items (named_in words.digits items))

-- what the lists leave open
abbrev pub check_lists : Words → List Said → List (Result (Option ℕ) Question) → List ℕ → Bool → Result (Unit {0} × (Unit {0} × Unit {0})) Question
check_lists words items found named lacks =
    both (check_found found) (both (checked_unlisted words.unlisted items named lacks) (check_rates words.rates.items items))

-- the indexes, where nothing is left open
abbrev pub named_if : Result (Unit {0} × (Unit {0} × Unit {0})) Question → List ℕ → Result (List ℕ) Question
named_if read named = read >>= λ _. Ok named

-- the indexes of a device, where nothing is left open; else 73 at the earliest line
unfoldable pub listed : Words → List Said → Result (List ℕ) Question
listed words items =
    named_if (check_lists words items (indexes_of words.digits items) (named_by words items) (lacks_any words.digits items)) (named_by words items)
