-- The settings that a table of settings asks of a device.
use Rattle.std.specs.Prelude.{◌≡◌, ℕ, true, List, [], ◌++◌, All, Option, Result, Ok, Err}
use Rattle.std.specs.List.{cons_option}
use Rattle.cop_dict.specs.Find.{Entry}
use Rattle.cop_setup.specs.declared.setting.Setting.{Setting}
use Rattle.cop_setup.specs.declared.asking.AskFault.{AskFault}
use Rattle.cop_setup.specs.Asking.{asked_of}
use Rattle.cop_setup.specs.Settings.{IsFit, IsNumber}
use Rattle.cop_setup.specs.InTurn.{AreApart, TakesEach}
use Rattle.cop_rows.specs.declared.setting_rows.SettingRow.{SettingRow}
use Rattle.cop_rows.specs.SettingRows.{is_settable}
use Rattle.cop_table.specs.Reading.{◌>>=◌}
use Rattle.cop_net.specs.declared.faults.Refusal.{Refusal}
use Rattle.cop_net.specs.declared.faults.Rule.TheVariants as rules
use Rattle.cop_net.specs.Faults.{at_setting}
use Rattle.cop_net.specs.Steps.{folded}

-- the dictionary of a device with the settings so far, and these
pub record Asked : Type 0 where
  pub dictionary : List Entry
  pub settings : List Setting

-- the setting of a row, or its refusal at the row's record
abbrev pub in_row : SettingRow → Result (Option Setting × List Entry) AskFault → Result (Option Setting × List Entry) Refusal
in_row row (Ok found) = Ok found
in_row row (Err fault) = at_setting (rules.Asked row.index row.sub fault) row.place

-- one row more: it is written to the dictionary, as SDO does
abbrev pub with_row : ℕ → Asked → SettingRow → Result Asked Refusal
with_row node asked row =
    in_row row (asked_of asked.dictionary node row.index row.sub row.amount)
    >>= λ found. Ok (record { dictionary = found.1; settings = asked.settings ++ cons_option found.0 [] })

-- The settings that the rows ask of a device with a dictionary, each of which it takes in its turn, or the first row that it does not.
abbrev pub settings_asked : ℕ → List Entry → List SettingRow → Result (List Setting) Refusal
settings_asked node dict rows = folded (with_row node) (record { dictionary = dict; settings = [] }) rows >>= λ asked. Ok asked.settings

-- What holds of the settings that are asked of a device: each is a number of its object, which the device takes, of an object that no other
-- setting has, and of none that a plan sets.
pub record AreTaken (dict : List Entry) (settings : List Setting) : Type 0 where
  pub fits : All IsFit settings
  pub numbers : All (IsNumber dict) settings
  pub settable : All (λ s. is_settable s.index ≡ true) settings
  pub taken : TakesEach dict settings
  pub apart : AreApart settings
