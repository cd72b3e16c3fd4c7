-- The meaning of a maker's text: a device, or the question that it leaves open.
use Rattle.std.specs.Prelude.{ℕ, zero, suc, ◌+◌, Bool, true, false, List, [], ◌∷◌, ◌++◌, map, filter, if◌then◌else◌, Option, Some, None, Result, Ok, Err}
use Rattle.std.specs.List.{list_any}
use Rattle.std.specs.Option.{option_to_list}
use Rattle.cop_frame.specs.declared.rates.Rate.{Rate}
use Rattle.cop_frame.specs.RateSet.{all_rates}
use Rattle.cop_eds.specs.Objects.{rising}
use Rattle.cop_bytes.specs.Bytes.{prepared, refused_line}
use Rattle.cop_tidy_lines.specs.declared.names.SectionName.TheVariants as names
use Rattle.cop_tidy_lines.specs.declared.keys.Key.TheVariants as keys
use Rattle.cop_tidy_reading.specs.declared.question.About.TheVariants as abouts
use Rattle.cop_tidy_reading.specs.declared.question.Question.{Question}
use Rattle.cop_tidy_reading.specs.declared.words.Words.{Words}
use Rattle.cop_tidy_reading.specs.declared.pdos.CompactPdo.{CompactPdo}
use Rattle.cop_tidy_reading.specs.Questions.{◌>>=◌, ask, both, all_of}
use Rattle.cop_tidy_reading.specs.Gathering.{joined_by, beside}
use Rattle.cop_tidy_reading.specs.Items.{Said, items_of}
use Rattle.cop_tidy_reading.specs.Sections.{Section, section_named}
use Rattle.cop_tidy_reading.specs.Repeats.{check_repeats}
use Rattle.cop_tidy_reading.specs.Lists.{listed}
use Rattle.cop_tidy_reading.specs.Stated.{flag_at}
use Rattle.cop_tidy_reading.specs.Pdos.{none, compact_pdo, implies}
use Rattle.cop_tidy_device.specs.Device.{Meaning}
use Rattle.cop_tidy_device.specs.declared.device.DeviceObject.{DeviceObject}
use Rattle.cop_tidy_reading.specs.Objects.{Whole, described_at}

-- ---- rates (CiA 306: BaudRate keys of DeviceInfo)

abbrev pub rate_by : Rate → Option Bool → Option Rate
rate_by rate None = None
rate_by rate (Some is_supported) = if is_supported then Some rate else None

unfoldable pub rate_in : Whole → Section → Rate → Result (Option Rate) Question
rate_in whole section rate = flag_at whole.words.digits whole.items section.number (keys.BaudRate rate) >>= λ flag. Ok (rate_by rate flag)

abbrev pub is_stated : Result (Option Bool) Question → Bool
is_stated (Ok None) = false
is_stated (Ok (Some flag)) = true
is_stated (Err question) = true

abbrev pub states_rate : Whole → Section → Rate → Bool
states_rate whole section rate = is_stated (flag_at whole.words.digits whole.items section.number (keys.BaudRate rate))

-- the rates that DeviceInfo says to be supported
abbrev pub stated_rates : Whole → Section → Result (List Rate) Question
stated_rates whole section = joined_by option_to_list (all_of (map (rate_in whole section) all_rates))

-- the rates that DeviceInfo supports, or those that are chosen where it says nothing of any
abbrev pub rates_in : Whole → Option Section → Result (List Rate) Question
rates_in whole None = Ok whole.words.rates.items
rates_in whole (Some section) =
    if list_any (states_rate whole section) all_rates then stated_rates whole section else Ok whole.words.rates.items

unfoldable pub rates_of : Whole → Result (List Rate) Question
rates_of whole = rates_in whole (section_named whole.items names.DeviceInfo)

-- ---- the device

-- so many numbers from one on
unfoldable pub numbers_from : ℕ → ℕ → List ℕ
numbers_from first zero = []
numbers_from first (suc count) = first ∷ numbers_from (first + 1) count

-- the indexes of a device: those that the lists name, and the records of PDOs that CompactPDO tells of, in rising order
unfoldable pub indexes_of : Whole → List ℕ
indexes_of whole = rising (whole.listed ++ filter (implies whole.pdos whole.listed) (numbers_from 0x1400 0x800))

abbrev pub or_none : Result CompactPdo Question → CompactPdo
or_none (Ok pdos) = pdos
or_none (Err question) = none

abbrev pub whole_of : Words → List Said → List ℕ → Whole
whole_of words items listed = record { items = items; words = words; listed = listed; pdos = or_none (compact_pdo words.digits items listed) }

-- the device of rates and objects that were read side by side
abbrev pub device_by : Result (List Rate) Question → List ℕ → Result (List DeviceObject) Question → Result Meaning Question
device_by rates listed objects = both rates objects >>= λ found. Ok (record { rates = found.0; listed = listed; objects = found.1 })

abbrev pub device_in : Result CompactPdo Question → Whole → Result Meaning Question
device_in pdos whole =
    beside pdos (device_by (rates_of whole) (indexes_of whole) (joined_by (λ list. list) (all_of (map (described_at whole) (indexes_of whole)))))

-- the device, where nothing is left open: 74 to 78 at the earliest line
unfoldable pub device_of : Words → List Said → List ℕ → Result Meaning Question
device_of words items listed = device_in (compact_pdo words.digits items listed) (whole_of words items listed)

-- ---- the stages

abbrev pub text_at : ℕ → Option (List ℕ) → Result (List ℕ) Question
text_at line None = ask abouts.NoText line
text_at line (Some text) = Ok text

-- the bytes that are read as lines; 70 where they are no text: at the line of the first byte 00h, or at none
unfoldable pub text_of : List ℕ → Result (List ℕ) Question
text_of source = text_at (refused_line source) (prepared source)

-- What a maker's text means under the choices that were made, or the question that it leaves open: that of the smallest line of the first stage that
-- has one.
unfoldable pub loosely : List ℕ → Words → Result Meaning Question
loosely source words = do
  text ← text_of source
  items ← items_of text
  _ ← check_repeats items
  named ← listed words items
  device_of words items named
