-- Which settings a dictionary takes, one after the other, and what they give it.
use Rattle.std.specs.Prelude.{◌≡◌, ℕ, false, ◌&&◌, List, [], ◌∷◌, option_map, ◌==◌, Some, None, Ok, IsSome}
use Rattle.cop_dict.specs.Types.{width_of}
use Rattle.cop_dict.specs.Find.{Entry, entry_at}
use Rattle.cop_dict.specs.Pdo.{is_mapping}
use Rattle.cop_dict.specs.Dict.{HasWidth, valued, refused_alone, written}
use Rattle.cop_setup.specs.declared.setting.Setting.{Setting}
use Rattle.cop_setup.specs.Settings.{bytes_of, with_setting}

-- a dictionary of fixed widths at the settings accepts each of them in its turn
abbrev pub AcceptsInTurn : List Entry → List Setting → Type 0
AcceptsInTurn dict [] = Unit {0}
AcceptsInTurn dict (s ∷ rest) =
    HasWidth dict s.index s.sub × (written dict s.index s.sub (bytes_of s) ≡ Ok (with_setting dict s)) × AcceptsInTurn (with_setting dict s) rest

-- no setting of a list is at an address
abbrev pub IsElsewhere : ℕ → ℕ → List Setting → Type 0
IsElsewhere index sub [] = Unit {0}
IsElsewhere index sub (s ∷ rest) = ((s.index == index) && (s.sub == sub) ≡ false) × IsElsewhere index sub rest

-- no two settings are at one address
abbrev pub AreApart : List Setting → Type 0
AreApart [] = Unit {0}
AreApart (s ∷ rest) = IsElsewhere s.index s.sub rest × AreApart rest

-- a dictionary takes a setting at an entry of one width that is no mapping record's
pub record TakesAlone (dict : List Entry) (s : Setting) : Type 0 where
  pub entry : Entry
  pub at : entry_at dict s.index s.sub ≡ Some entry
  pub free : is_mapping entry.index ≡ false
  pub width : IsSome (width_of entry.description.data_type)
  pub accepts : refused_alone entry (bytes_of s) ≡ None

abbrev pub TakesEach : List Entry → List Setting → Type 0
TakesEach dict [] = Unit {0}
TakesEach dict (s ∷ rest) = TakesAlone dict s × TakesEach dict rest

-- each setting's entry has its value afterwards, and is else as it was
abbrev pub HaveValues : List Entry → List Entry → List Setting → Type 0
HaveValues dict new [] = Unit {0}
HaveValues dict new (s ∷ rest) = (entry_at new s.index s.sub ≡ option_map (valued (bytes_of s)) (entry_at dict s.index s.sub)) × HaveValues dict new rest
