-- What is set in the sections of a text, by the sections' numbers.
use Rattle.std.specs.Prelude.{◌≡◌, ◌<◌, ℕ, Bool, ◌==◌, List, [], get_or, length, Option, None}
use Rattle.std.specs.List.{filter}
use Rattle.cop_eds.specs.Edits.{Change}
use Rattle.cop_setup.specs.declared.setting.Setting.{Setting}
use Rattle.cop_dcf.specs.Dcf.{setting_in}

-- a table has the last setting of each section's object
pub record KnowsSettings (table : List (Option Setting)) (text : List ℕ) (settings : List Setting) (count : ℕ) : Type 0 where
  pub size : length table ≡ count
  pub each : (section : ℕ) → section < count → get_or table section None ≡ setting_in text settings section

abbrev pub is_in : ℕ → Change → Bool
is_in section change = change.section == section

-- a table has the changes of each section
abbrev pub AreBySection : List (List Change) → List Change → Type 0
AreBySection table changes = (section : ℕ) → get_or table section [] ≡ filter (is_in section) changes
