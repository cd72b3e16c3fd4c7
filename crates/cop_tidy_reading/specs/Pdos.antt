-- PDOs that a device has by CompactPDO (CiA 306): those up to NrOfRXPDO and NrOfTXPDO that no list names.
use Rattle.std.specs.Prelude.{ℕ, ◌+◌, ◌-◌, ◌*◌, ◌/◌, ◌%◌, Bool, false, not, ◌||◌, ◌&&◌, ◌==◌, nat_lt, nat_le, is_some, unwrap_or, List, if◌then◌else◌, Option, Some, None, Result, Ok}
use Rattle.std.specs.List.{list_any}
use Rattle.std.specs.Option.{option_map, option_or}
use Rattle.cop_eds.specs.declared.amount.Amount.{Amount}
use Rattle.cop_eds.specs.declared.amount.Amount.TheVariants as amounts
use Rattle.cop_eds.specs.declared.description.Access.TheVariants.{ReadOnly, ReadWrite}
use Rattle.cop_tidy_lines.specs.declared.choices.Digits.{Digits}
use Rattle.cop_tidy_lines.specs.declared.names.SectionName.TheVariants as names
use Rattle.cop_tidy_lines.specs.declared.keys.Key.{Key}
use Rattle.cop_tidy_lines.specs.declared.keys.Key.TheVariants as keys
use Rattle.cop_tidy_reading.specs.declared.question.About.TheVariants as abouts
use Rattle.cop_tidy_reading.specs.declared.question.Question.{Question}
use Rattle.cop_tidy_reading.specs.declared.pdos.CompactPdo.{CompactPdo}
use Rattle.cop_tidy_reading.specs.declared.pdos.Implied.{Implied}
use Rattle.cop_tidy_reading.specs.Questions.{◌>>=◌, both, unless}
use Rattle.cop_tidy_reading.specs.Items.{Said}
use Rattle.cop_tidy_reading.specs.Sections.{Section, section_named, entry_of, raw_of}
use Rattle.cop_tidy_reading.specs.Stated.{number_at}
use Rattle.cop_tidy_reading.specs.Standard.{communication_type}
use Rattle.cop_tidy_reading.specs.Lists.{is_named}

-- a listed record lies behind so many PDOs of a direction, of which there are 512
abbrev pub is_beyond : List ℕ → ℕ → ℕ → Bool
is_beyond listed first count = list_any (λ index. nat_le (first + count) index && nat_lt index (first + 512)) listed

-- the line of an entry, or another one where there is none
abbrev pub line_of : ℕ → Option (ℕ × List ℕ) → ℕ
line_of line None = line
line_of line (Some entry) = entry.0

-- there can be so many of a direction, and no list names more
abbrev pub can_be : List ℕ → ℕ → ℕ → Bool
can_be listed first count = nat_le count 512 && not (is_beyond listed first count)

-- how many PDOs of a direction a key states; 77 where these cannot be, or a list names more
abbrev pub count_at : Option Digits → List Said → List ℕ → ℕ → Key → ℕ → ℕ → Result ℕ Question
count_at digits items listed section key first line =
    number_at digits items section key >>= λ count.
    unless (can_be listed first (unwrap_or count 0)) abouts.Compact (line_of line (entry_of items section key)) >>= λ _.
    Ok (unwrap_or count 0)

-- no PDOs but those that the lists name
abbrev pub none : CompactPdo
none = record { subs = 0; received = 0; sent = 0 }

-- the COB-ID must be among the subs, which are at most six
abbrev pub counted : Option Digits → List Said → List ℕ → ℕ → ℕ → ℕ → Result CompactPdo Question
counted digits items listed section line subs =
    both (unless ((subs % 2 == 1) && nat_lt subs 64) abouts.Compact line)
    (both (count_at digits items listed section keys.ReceivedPdos 0x1400 line) (count_at digits items listed section keys.SentPdos 0x1800 line))
    >>= λ found. Ok (record { subs = subs; received = found.1.0; sent = found.1.1 })

abbrev pub compact_in : Option Digits → List Said → List ℕ → Option Section → Result CompactPdo Question
compact_in digits items listed None = Ok none
compact_in digits items listed (Some section) =
    number_at digits items section.number keys.CompactPdo >>= λ subs.
    if unwrap_or subs 0 == 0 then Ok none
    else counted digits items listed section.number (line_of section.line (raw_of items section.number keys.CompactPdo)) (unwrap_or subs 0)

-- what CompactPDO says of the PDOs that no list names
unfoldable pub compact_pdo : Option Digits → List Said → List ℕ → Result CompactPdo Question
compact_pdo digits items listed = compact_in digits items listed (section_named items names.DeviceInfo)

-- bit k - 1 says whether a communication record has the sub k
abbrev pub has_sub : ℕ → ℕ → Bool
has_sub subs sub =
    if sub == 1 then (subs % 2 == 1) else
    if sub == 2 then (subs / 2 % 2 == 1) else
    if sub == 3 then (subs / 4 % 2 == 1) else
    if sub == 4 then (subs / 8 % 2 == 1) else
    if sub == 5 then (subs / 16 % 2 == 1) else
    if sub == 6 then (subs / 32 % 2 == 1) else false

abbrev pub highest_sub : ℕ → ℕ
highest_sub subs =
    if has_sub subs 6 then 6 else
    if has_sub subs 5 then 5 else
    if has_sub subs 4 then 4 else
    if has_sub subs 3 then 3 else
    if has_sub subs 2 then 2 else
    if has_sub subs 1 then 1 else 0

-- the first four of a direction have identifiers of the pre-defined connection set (CiA 301); the others have none, which 0 says
abbrev pub identifier : ℕ → ℕ → Amount
identifier base place = if nat_lt place 4 then amounts.PlusNode (base + place * 0x100) else amounts.Hexadecimal 0

abbrev pub place_in : ℕ → ℕ → ℕ → ℕ → Option (ℕ × ℕ)
place_in first count base index = if nat_le first index && nat_lt index (first + count) then Some (index - first, base) else None

-- the place of the PDO with this communication record, and the identifier of the first of its direction, where no list names it
abbrev pub implied_at : CompactPdo → List ℕ → ℕ → Option (ℕ × ℕ)
implied_at pdos listed index =
    if (pdos.subs == 0) || is_named listed index then None
    else option_or (place_in 0x1400 pdos.received 0x200 index) (place_in 0x1800 pdos.sent 0x180 index)

-- a communication record that no list names, or its mapping record, which lies 200h behind it, where no list names that
abbrev pub implies : CompactPdo → List ℕ → ℕ → Bool
implies pdos listed index = is_some (implied_at pdos listed index) || (not (is_named listed index) && is_some (implied_at pdos listed (index - 0x200)))

abbrev pub record_sub : ℕ × ℕ → ℕ → ℕ → Implied
record_sub place sub n = record { data_type = n; access = ReadWrite; amount = if sub == 1 then Some (identifier place.1 place.0) else None }

-- a sub of a communication record; the values are 0 but for the COB-ID and sub 0
abbrev pub communication : ℕ → ℕ × ℕ → ℕ → Option Implied
communication subs place sub =
    if sub == 0 then Some (record { data_type = 5; access = ReadOnly; amount = Some (amounts.Decimal (highest_sub subs)) })
    else if has_sub subs sub then option_map (record_sub place sub) (communication_type sub)
    else None

-- nothing is mapped
abbrev pub mapping : ℕ → Option Implied
mapping sub = if sub == 0 then Some (record { data_type = 5; access = ReadWrite; amount = Some (amounts.Decimal 0) }) else None

abbrev pub implied_by : CompactPdo → Option (ℕ × ℕ) → ℕ → Option Implied
implied_by pdos None sub = mapping sub
implied_by pdos (Some place) sub = communication pdos.subs place sub

-- what a sub of a record is that a device has by CompactPDO
unfoldable pub implied : CompactPdo → List ℕ → ℕ → ℕ → Option Implied
implied pdos listed index sub = if implies pdos listed index then implied_by pdos (implied_at pdos listed index) sub else None
