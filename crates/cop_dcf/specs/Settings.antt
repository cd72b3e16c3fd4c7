-- What a plan sets in a node (CiA 301, "PDO communication parameter record", "Producer heartbeat time").
use Rattle.std.specs.Prelude.{ℕ, ℤ, pos, ◌||◌, List, [], ◌∷◌, ◌++◌, if◌then◌else◌, Option, Some, None, is_some, option_and_then, option_map, get_or}
use Rattle.std.specs.List.{filter_map}
use Rattle.std.specs.Option.{option_map_or}
use Rattle.std.specs.Ordering.{int_eq}
use Rattle.cop_dict.specs.Find.{Entry, unsigned32_of, entry_at}
use Rattle.cop_dict.specs.Pdo.{is_cob_id, exists_by}
use Rattle.cop_pdo.specs.CobIds.{off, on}
use Rattle.cop_net.specs.Settings.{whole_of}
use Rattle.cop_net.specs.Heartbeats.{heartbeat_of}
use Rattle.cop_net.specs.Network.{Net}
use Rattle.cop_setup.specs.declared.setting.Setting.{Setting}
use Rattle.cop_setup.specs.declared.setting.Width.TheVariants.{Two}
use Rattle.cop_setup.specs.Settings.{cob_id_set}
use Rattle.cop_dcf.specs.Identifiers.{id_at}

-- a PDO that is used, or that exists, is switched off
abbrev pub off_set : Option ℕ → ℕ → ℕ → Option Setting
off_set id index cob_id = if is_some id || exists_by cob_id then Some (cob_id_set index (off cob_id)) else None

-- a PDO that is used gets its identifier
abbrev pub on_set : Option ℕ → ℕ → ℕ → Option Setting
on_set None index cob_id = None
on_set (Some id) index cob_id = Some (cob_id_set index (on cob_id id))

-- what is set of an entry, where that is a COB-ID
abbrev pub set_of : (Option ℕ → ℕ → ℕ → Option Setting) → (ℕ → Option ℕ) → Entry → Option Setting
set_of set ids entry = if is_cob_id entry then option_and_then (set (ids entry.index) entry.index) (unsigned32_of entry) else None

-- the setting of the heartbeat's time, in ms
abbrev pub heartbeat_set : ℕ → Setting
heartbeat_set time = record { index = 0x1017; sub = 0; value = time; width = Two }

-- the heartbeat gets its time, where it has another
abbrev pub time_set : ℕ → Option ℤ → List Setting
time_set time None = []
time_set time (Some now) = if int_eq now (pos time) then [] else heartbeat_set time ∷ []

-- What is set in a node whose dictionary is as it was built: each PDO that is used, and each other that exists, is
-- switched off, by rising index; then come the settings that are asked of the device; then each PDO that is used gets its
-- identifier, by rising index; at last the heartbeat gets its time, where it has another. `ids` tells the identifier of the PDO at
-- an index, where it is used.
abbrev pub settings_of : List Entry → List Setting → (ℕ → Option ℕ) → ℕ → List Setting
settings_of dict asked ids time =
    filter_map (set_of off_set ids) dict
    ++ asked
    ++ filter_map (set_of on_set ids) dict
    ++ time_set time (option_and_then whole_of (entry_at dict 0x1017 0))

abbrev pub settings_by : List Setting → (ℕ → Option ℕ) → ℕ → Option (List Entry) → List Setting
settings_by asked ids time None = []
settings_by asked ids time (Some dict) = settings_of dict asked ids time

-- the dictionary of a node's device
abbrev pub dictionary_of : Net → ℕ → Option (List Entry)
dictionary_of net node = option_map (λ device. device.dictionary) (get_or net.equipment.devices node None)

-- the settings that are asked of a node's device
abbrev pub asked_of : Net → ℕ → List Setting
asked_of net node = option_map_or (λ device. device.settings) (get_or net.equipment.devices node None) []

-- what a plan with these identifiers sets in a node of its network; a node without a device has no settings
abbrev pub node_settings : Net → List ℕ → ℕ → List Setting
node_settings net ids node = settings_by (asked_of net node) (id_at net.rows ids node) (heartbeat_of net.nodes.frames node) (dictionary_of net node)
