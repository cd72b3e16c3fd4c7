-- Which of some settings is the first that a device does not take, and why.
use Rattle.std.specs.Prelude.{◌≡◌, Bool, true, false, not, List, [], ◌∷◌, take, Some, Result, Ok, Err, slice_get}
use Rattle.std.specs.Option.{option_map_or}
use Rattle.cop_dict.specs.Find.{Entry, entry_at}
use Rattle.cop_dict.specs.Dict.{written}
use Rattle.cop_setup.specs.declared.setting.Setting.{Setting}
use Rattle.cop_setup.specs.declared.trying.Trouble.{Trouble}
use Rattle.cop_setup.specs.declared.trying.Trouble.TheVariants.{Unlike, Aborted}
use Rattle.cop_setup.specs.declared.trying.Untaken.{Untaken}
use Rattle.cop_setup.specs.Settings.{bytes_of, with_setting, planned, has_numbers}

-- the object of a setting is there, and its values are no numbers of the setting's width
abbrev pub is_unlike : List Entry → Setting → Bool
is_unlike dict s = option_map_or (λ entry. not (has_numbers entry.description.data_type s.width)) (entry_at dict s.index s.sub) false

-- a device takes a setting: the object has numbers of its width, and the write is accepted
pub record Takes (dict : List Entry) (s : Setting) : Type 0 where
  pub alike : is_unlike dict s ≡ false
  pub accepted : written dict s.index s.sub (bytes_of s) ≡ Ok (with_setting dict s)

-- it takes each of some settings in its turn
abbrev pub TakesInTurn : List Entry → List Setting → Type 0
TakesInTurn dict [] = Unit {0}
TakesInTurn dict (s ∷ rest) = Takes dict s × TakesInTurn (with_setting dict s) rest

-- why it does not take a setting
abbrev pub IsRefused : List Entry → Setting → Trouble → Type 0
IsRefused dict s Unlike = is_unlike dict s ≡ true
IsRefused dict s (Aborted abort) = (is_unlike dict s ≡ false) × (written dict s.index s.sub (bytes_of s) ≡ Err abort)

-- it takes the settings before a place in turn, and then not the one that stands there
pub record IsFirstUntaken (dict : List Entry) (settings : List Setting) (untaken : Untaken) : Type 0 where
  pub setting : Setting
  pub there : slice_get settings untaken.place ≡ Some setting
  pub before : TakesInTurn dict (take untaken.place settings)
  pub refused : IsRefused (planned dict (take untaken.place settings)) setting untaken.trouble

-- what one setting gave, and left
abbrev pub Tries : {X : Type 0} → Result X Trouble → List Entry → List Entry → Setting → Type 0
Tries (Ok _) old new s = Takes old s × (new ≡ with_setting old s)
Tries (Err trouble) old new s = IsRefused old s trouble × (new ≡ old)

-- what settings gave, and left: each is taken in turn, or the first that is not taken is told
abbrev pub TriesAll : {X : Type 0} → Result X Untaken → List Entry → List Entry → List Setting → Type 0
TriesAll (Ok _) old new settings = TakesInTurn old settings × (new ≡ planned old settings)
TriesAll (Err untaken) old new settings = IsFirstUntaken old settings untaken × (new ≡ planned old (take untaken.place settings))
