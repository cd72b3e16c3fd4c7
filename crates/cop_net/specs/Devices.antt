-- The devices of a network, as their EDS files describe them.
use Rattle.std.specs.Prelude.{ℕ, Bool, false, List, replicate, slice_set, find, map, option_map, Option, Some, None, Result, Ok, Err, String, string_bytes}
use Rattle.std.specs.List.{filter}
use Rattle.std.specs.Str.{bytes_eq}
use Rattle.std.specs.declared.vec.Vec.{Vec}
use Rattle.cop_frame.specs.declared.rates.Rate.{Rate}
use Rattle.cop_eds.specs.declared.fault.Refusal as eds
use Rattle.cop_eds.specs.Reading.{reading}
use Rattle.cop_eds.specs.Rates.{support_of}
use Rattle.cop_dict.specs.Find.{Entry}
use Rattle.cop_dict.specs.Build.{built}
use Rattle.cop_rows.specs.declared.node_table.DeviceRow.{DeviceRow}
use Rattle.cop_table.specs.Reading.{◌>>=◌}
use Rattle.cop_net.specs.declared.faults.Refusal.{Refusal}
use Rattle.cop_net.specs.declared.faults.Rule.TheVariants as rules
use Rattle.cop_net.specs.declared.devices.Device.{Device}
use Rattle.cop_net.specs.Faults.{at_node}
use Rattle.cop_net.specs.Rates.{in_order}
use Rattle.cop_setup.specs.declared.setting.Setting.{Setting}
use Rattle.cop_net.specs.Asking.{settings_asked}
use Rattle.cop_net.specs.Steps.{folded}

-- a file that is handed in
pub record File : Type 0 where
  pub name : List ℕ
  pub text : List ℕ

-- files as they are handed in: of each its name and its bytes
abbrev pub handed_in : {Z : Type 0} → List (String Z × Vec ℕ Z) → List File
handed_in files = map (λ f. record { name = string_bytes f.0; text = f.1.items }) files

-- the text of a name: of two files with one name the first counts
abbrev pub text_of : List File → List ℕ → Option (List ℕ)
text_of files name = option_map (λ f. f.text) (find (λ f. bytes_eq f.name name) files)

-- a file that is not handed in, or whose text is refused, is refused at its device's record
abbrev pub text_at : ℕ → Option (List ℕ) → Result (List ℕ) Refusal
text_at place None = at_node (rules.Eds None) place
text_at place (Some text) = Ok text

abbrev pub refused_at : {A : Type 0} → ℕ → Result A eds.Refusal → Result A Refusal
refused_at place (Ok x) = Ok x
refused_at place (Err refusal) = at_node (rules.Eds (Some refusal)) place

-- the text that a name has, where it is accepted
abbrev pub text_read : (List ℕ → Option (List ℕ)) → ℕ → List ℕ → Result (List ℕ) Refusal
text_read texts place name = do
  text ← text_at place (texts name)
  refused_at place (reading text)

-- the entries that a text describes for a node
abbrev pub entries_of : ℕ → ℕ → List ℕ → Result (List Entry) Refusal
entries_of place node text = refused_at place (built text node)

abbrev pub is_supported : Result Bool eds.Refusal → Bool
is_supported (Ok b) = b
is_supported (Err _) = false

-- the text supports the rate
abbrev pub supports : List ℕ → Rate → Bool
supports text rate = is_supported (support_of text rate)

-- the devices by their nodes, from 0 to 127, and the candidates: the rates that are wanted and that all of them support, the slowest first
pub record Equipment : Type 0 where
  pub devices : List (Option Device)
  pub rates : List Rate

-- no device: each rate that is wanted
abbrev pub no_device : List Rate → Equipment
no_device wanted = record { devices = replicate 128 None; rates = in_order wanted }

-- one device more
abbrev pub with_device : Equipment → DeviceRow → List ℕ → List Entry → List Setting → Equipment
with_device found row text entries settings = record {
  devices = slice_set found.devices row.node (Some (record { place = row.place; dictionary = entries; settings = settings }));
  rates = filter (supports text) found.rates;
}

-- the device of a row that an accepted text describes, with the settings that are asked of it
abbrev pub described : Equipment → DeviceRow → List ℕ → Result Equipment Refusal
described found row text = entries_of row.place row.node text >>= λ entries. settings_asked row.node entries row.settings >>= λ settings. Ok (with_device found row text entries settings)

-- the device of a row
abbrev pub device_added : (List ℕ → Option (List ℕ)) → Equipment → DeviceRow → Result Equipment Refusal
device_added texts found row = text_read texts row.place row.eds >>= described found row

-- the devices of the rows and the candidates of the rates that are wanted, or the first refusal by record
unfoldable pub devices_of : List Rate → List File → List DeviceRow → Result Equipment Refusal
devices_of wanted files rows = folded (device_added (text_of files)) (no_device wanted) rows
