-- Which settings a device takes.
use Rattle.std.specs.Prelude.{ℕ, zero, suc, ◌+◌, ◌-◌, Bool, true, false, not, ◌&&◌, ◌||◌, List, ◌==◌, pos, Option, Some, None, option_and_then, if◌then◌else◌, ℤ, int_lt}
use Rattle.std.specs.Result.{is_ok}
use Rattle.std.specs.List.{list_all}
use Rattle.std.specs.Ordering.{int_eq}
use Rattle.std.specs.Int.{bytes_low_first}
use Rattle.cop_dict.specs.declared.data_type.DataType.{DataType}
use Rattle.cop_dict.specs.declared.data_type.DataType.TheVariants as types
use Rattle.cop_dict.specs.declared.description.Description.{Description}
use Rattle.cop_dict.specs.Types.{is_boolean, is_writable}
use Rattle.std.specs.Option.{option_map_or}
use Rattle.cop_dict.specs.Find.{Entry, unsigned32_of, integer_of, entry_at}
use Rattle.cop_dict.specs.Pdo.{is_cob_id, exists_by, keeps_pdo}
use Rattle.cop_dict.specs.Dict.{written, ◌>>=◌}
use Rattle.cop_pdo.specs.CobIds.{off, on}
use Rattle.cop_rta.specs.declared.ranges.IdRange.{IdRange}

-- the bytes of an UNSIGNED32
abbrev pub word : ℕ → List ℕ
word n = bytes_low_first 0 4 n

-- a description lets this number be written as an UNSIGNED32
abbrev pub may_hold : Description → ℕ → Bool
may_hold description n =
    is_writable description.access
    && (not (option_map_or (λ high. int_lt high (pos n)) description.high false) && not (option_map_or (λ low. int_lt (pos n) low) description.low false))

abbrev pub greatest_of : IdRange → ℕ
greatest_of range = range.least + (range.count - 1)

-- it lets a COB-ID be switched on with the least and with the greatest identifier of a range
abbrev pub may_switch_on : Description → ℕ → IdRange → Bool
may_switch_on description cob_id range = may_hold description (on cob_id range.least) && may_hold description (on cob_id (greatest_of range))

-- it lets a COB-ID be switched off, and on with the least and with the greatest identifier of each range
abbrev pub may_switch : Description → ℕ → List IdRange → Bool
may_switch description cob_id ranges = may_hold description (off cob_id) && list_all (may_switch_on description cob_id) ranges

-- the PDO of a communication record can be switched off
abbrev pub goes_off : List Entry → ℕ → ℕ → Bool
goes_off dict index cob_id = is_ok (written dict index 1 (word (off cob_id)))

-- it can be switched off, and then on with this identifier
abbrev pub takes : List Entry → ℕ → ℕ → ℕ → Bool
takes dict index cob_id id = is_ok (written dict index 1 (word (off cob_id)) >>= λ now. written now index 1 (word (on cob_id id)))

-- a test passes at so many numbers from one on
unfoldable pub passes_from : (ℕ → Bool) → ℕ → ℕ → Bool
passes_from test first zero = true
passes_from test first (suc count) = test first && passes_from test (first + 1) count

-- it takes each identifier of a range
unfoldable pub takes_each : List Entry → ℕ → ℕ → IdRange → Bool
takes_each dict index cob_id range = passes_from (takes dict index cob_id) range.least range.count

abbrev pub takes_each_of : List Entry → ℕ → List IdRange → Option ℕ → Bool
takes_each_of dict index ranges None = false
takes_each_of dict index ranges (Some cob_id) = list_all (takes_each dict index cob_id) ranges

-- it takes each identifier of the ranges; where its COB-ID is no UNSIGNED32 no plan can write it
abbrev pub is_usable : List Entry → ℕ → List IdRange → Bool
is_usable dict index ranges = takes_each_of dict index ranges (option_and_then unsigned32_of (entry_at dict index 1))

abbrev pub goes_off_of : List Entry → ℕ → Option ℕ → Bool
goes_off_of dict index None = false
goes_off_of dict index (Some cob_id) = goes_off dict index cob_id

-- the entry is the COB-ID of a PDO that exists and can't be switched off
abbrev pub stays_on : List Entry → Entry → Bool
stays_on dict entry = is_cob_id entry && (keeps_pdo entry && not (goes_off_of dict entry.index (unsigned32_of entry)))

-- the same, seen of the entry alone
abbrev pub is_stuck_by : Description → Option ℕ → Bool
is_stuck_by description None = true
is_stuck_by description (Some cob_id) = exists_by cob_id && not (may_hold description (off cob_id))

abbrev pub is_stuck : Entry → Bool
is_stuck entry = is_cob_id entry && is_stuck_by entry.description (unsigned32_of entry)

abbrev pub is_unsigned16 : DataType → Bool
is_unsigned16 types.Unsigned16 = true
is_unsigned16 _ = false

-- the number that an entry of an integer type has
abbrev pub whole_of : Entry → Option ℤ
whole_of entry = if is_boolean entry.description.data_type then None else integer_of entry

-- the entry has this time already, or it can be written
abbrev pub has_or_takes : List Entry → ℕ → Entry → Option ℤ → Bool
has_or_takes dict time entry None = false
has_or_takes dict time entry (Some now) =
    int_eq now (pos time) || (is_unsigned16 entry.description.data_type && is_ok (written dict 0x1017 0 (bytes_low_first 0 2 time)))

-- the same, seen of the entry alone
abbrev pub holds_time : ℕ → Entry → Option ℤ → Bool
holds_time time entry None = false
holds_time time entry (Some now) = int_eq now (pos time) || (is_unsigned16 entry.description.data_type && may_hold entry.description time)

abbrev pub beats_by : List Entry → ℕ → Option Entry → Bool
beats_by dict time None = time == 0
beats_by dict time (Some entry) = has_or_takes dict time entry (whole_of entry)

-- the heartbeat can have this time, in ms: without an object for it only 0
abbrev pub beats : List Entry → ℕ → Bool
beats dict time = beats_by dict time (entry_at dict 0x1017 0)
