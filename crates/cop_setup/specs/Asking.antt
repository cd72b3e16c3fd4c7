-- What a row of a table of settings asks of a device, and whether the device takes it.
use Rattle.std.specs.Prelude.{◌≡◌, ℕ, Bool, not, ◌&&◌, List, Option, Some, None, option_and_then, Result, Ok, Err, if◌then◌else◌}
use Rattle.std.specs.Str.{bytes_eq}
use Rattle.cop_eds.specs.declared.amount.Amount.{Amount}
use Rattle.cop_dict.specs.declared.abort.Abort.{Abort}
use Rattle.cop_dict.specs.declared.abort.Abort.TheVariants as aborts
use Rattle.cop_dict.specs.declared.data_type.DataType.{DataType}
use Rattle.cop_dict.specs.declared.data_type.DataType.TheVariants as types
use Rattle.cop_dict.specs.Types.{greatest_of, is_readable, is_writable}
use Rattle.cop_dict.specs.Patterns.{pattern_of}
use Rattle.cop_dict.specs.Find.{Entry, entry_at}
use Rattle.cop_dict.specs.Dict.{written}
use Rattle.cop_setup.specs.declared.setting.Setting.{Setting}
use Rattle.cop_setup.specs.declared.setting.Width.{Width}
use Rattle.cop_setup.specs.declared.setting.Width.TheVariants.{One, Two, Four}
use Rattle.cop_setup.specs.declared.asking.AskFault.{AskFault}
use Rattle.cop_setup.specs.declared.asking.AskFault.TheVariants.{NoObject, NoNumbers, NoSuchNumber, Aborted}
use Rattle.cop_setup.specs.Settings.{bytes_of}

-- how wide the numbers of a type are: BOOLEAN, and integers of 1, 2 or 4 bytes
abbrev pub number_width : DataType → Option Width
number_width types.Boolean = Some One
number_width types.Integer8 = Some One
number_width types.Unsigned8 = Some One
number_width types.Integer16 = Some Two
number_width types.Unsigned16 = Some Two
number_width types.Integer32 = Some Four
number_width types.Unsigned32 = Some Four
number_width _ = None

-- the pattern of an amount in a type that has numbers
abbrev pub pattern_in : ℕ → Amount → DataType → Option ℕ
pattern_in node amount data_type = option_and_then (λ greatest. pattern_of data_type greatest node amount) (greatest_of data_type)

-- the setting of this value, where the type has it
abbrev pub with_pattern : ℕ → ℕ → Width → Option ℕ → Result Setting AskFault
with_pattern index sub width None = Err NoSuchNumber
with_pattern index sub width (Some pattern) = Ok (record { index = index; sub = sub; value = pattern; width = width })

abbrev pub with_width : ℕ → ℕ → Option ℕ → Option Width → Result Setting AskFault
with_width index sub pattern None = Err NoNumbers
with_width index sub pattern (Some width) = with_pattern index sub width pattern

-- nobody can write the entry, and it has the value of a setting
abbrev pub is_so : Entry → Setting → Bool
is_so entry s = not (is_writable entry.description.access) && bytes_eq entry.value (bytes_of s)

-- what a write gave
abbrev pub by_write : Setting → Result (List Entry) Abort → Result (Option Setting × List Entry) AskFault
by_write s (Ok dict) = Ok (Some s, dict)
by_write s (Err abort) = Err (Aborted abort)

-- a value that nobody can write and that is there already is not set; each other is written, also where it is there already, but none that
-- nobody can read back (CiA 301, "SDO abort codes": 06010001h)
abbrev pub by_setting : List Entry → Entry → Result Setting AskFault → Result (Option Setting × List Entry) AskFault
by_setting dict entry (Err fault) = Err fault
by_setting dict entry (Ok s) =
    if is_so entry s then Ok (None, dict)
    else if is_readable entry.description.access then by_write s (written dict s.index s.sub (bytes_of s))
    else Err (Aborted aborts.WriteOnly)

abbrev pub by_entry : List Entry → ℕ → ℕ → ℕ → Amount → Option Entry → Result (Option Setting × List Entry) AskFault
by_entry dict node index sub amount None = Err NoObject
by_entry dict node index sub amount (Some entry) =
    by_setting dict entry (with_width index sub (pattern_in node amount entry.description.data_type) (number_width entry.description.data_type))

-- The setting that is asked of an object, and the device's dictionary with it; or why there is none.
abbrev pub asked_of : List Entry → ℕ → ℕ → ℕ → Amount → Result (Option Setting × List Entry) AskFault
asked_of dict node index sub amount = by_entry dict node index sub amount (entry_at dict index sub)

-- what asking gave, and left
abbrev pub Asks : Result (Option Setting) AskFault → List Entry → List Entry → Result (Option Setting × List Entry) AskFault → Type 0
Asks (Ok setting) old new outcome = outcome ≡ Ok (setting, new)
Asks (Err fault) old new outcome = (outcome ≡ Err fault) × (new ≡ old)
