-- What switches off each PDO of a device (CiA 301, "PDO communication parameter record"), and settings that leave what a PDO moves.
use Rattle.std.specs.Prelude.{◌≡◌, ℕ, Bool, false, List, [], ◌∷◌, if◌then◌else◌, Option, Some, None, ◌==◌}
use Rattle.std.specs.List.{filter_map}
use Rattle.std.specs.Option.{option_and_then}
use Rattle.std.specs.Result.{is_ok}
use Rattle.cop_dict.specs.Find.{Entry, unsigned32_of}
use Rattle.cop_dict.specs.Dict.{written}
use Rattle.cop_dict.specs.Pdo.{is_cob_id}
use Rattle.cop_pdo.specs.CobIds.{off}
use Rattle.cop_setup.specs.declared.setting.Setting.{Setting}
use Rattle.cop_setup.specs.Settings.{bytes_of, cob_id_set}

-- a dictionary accepts a setting, as it stands now
abbrev pub is_accepted : List Entry → Setting → Bool
is_accepted dict s = is_ok (written dict s.index s.sub (bytes_of s))

-- the setting that switches off the PDO with a communication record, where the dictionary accepts it
abbrev pub off_if_taken : List Entry → ℕ → ℕ → Option Setting
off_if_taken dict index cob_id = if is_accepted dict (cob_id_set index (off cob_id)) then Some (cob_id_set index (off cob_id)) else None

-- the same of an entry, where that is a COB-ID
abbrev pub off_of : List Entry → Entry → Option Setting
off_of dict entry = if is_cob_id entry then option_and_then (off_if_taken dict entry.index) (unsigned32_of entry) else None

-- each PDO of the device that can be switched off is so, by rising index, also where it is off already
abbrev pub every_off : List Entry → List Setting
every_off dict = filter_map (off_of dict) dict

-- no setting is of an object of this index
abbrev pub AreBeside : ℕ → List Setting → Type 0
AreBeside index [] = Unit {0}
AreBeside index (s ∷ rest) = ((s.index == index) ≡ false) × AreBeside index rest
