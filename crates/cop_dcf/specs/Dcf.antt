-- The DCF text of a node (CiA 306, "Device configuration file").
use Rattle.std.specs.Prelude.{ℕ, zero, suc, ◌+◌, ◌/◌, ◌%◌, Bool, false, ◌==◌, List, [], ◌∷◌, ◌++◌, codes, decimal, reverse, nat_lt, if◌then◌else◌, Option, find}
use Rattle.std.specs.List.{cons_option, flat_map}
use Rattle.std.specs.Option.{option_map, option_map_or}
use Rattle.cop_frame.specs.declared.rates.Rate.{Rate}
use Rattle.cop_frame.specs.Rate.{kbits_of}
use Rattle.cop_eds.specs.Objects.{object_section}
use Rattle.cop_eds.specs.Rows.{Row, rows_of, has_name}
use Rattle.cop_eds.specs.Edits.{Change, with_keys, with_section, section_count, text_with}
use Rattle.cop_setup.specs.declared.setting.Setting.{Setting}
use Rattle.cop_setup.specs.Settings.{bytes_of}

-- a hexadecimal digit in upper case
abbrev pub digit : ℕ → ℕ
digit n = if nat_lt n 10 then 48 + n else 55 + n

-- the two digits of a byte
abbrev pub digits_of : ℕ → List ℕ
digits_of byte = digit (byte / 16) ∷ digit (byte % 16) ∷ []

-- bytes as a hexadecimal number, the most significant first
abbrev pub hexadecimal : List ℕ → List ℕ
hexadecimal bytes = codes "0x" ++ flat_map digits_of (reverse bytes)

-- the section of an object has this number
abbrev pub is_number : ℕ → Option ℕ → Bool
is_number section found = option_map_or (λ n. n == section) found false

-- the setting is of the object that this section describes
abbrev pub is_of : List ℕ → ℕ → Setting → Bool
is_of text section setting = is_number section (object_section text setting.index setting.sub)

-- the last setting of the object that a section describes
abbrev pub setting_in : List ℕ → List Setting → ℕ → Option Setting
setting_in text settings section = find (is_of text section) (reverse settings)

-- a setting is the value of its object's section
abbrev pub value_set : ℕ → Setting → Change
value_set section setting = record { section = section; key = codes "ParameterValue"; value = hexadecimal (bytes_of setting) }

-- the values of so many sections from one on
unfoldable pub values_from : (ℕ → Option Setting) → ℕ → ℕ → List Change
values_from settings section zero = []
values_from settings section (suc count) = cons_option (option_map (value_set section) (settings section)) (values_from settings (section + 1) count)

-- the file that the text was made of
abbrev pub origin_set : ℕ → List ℕ → List Change
origin_set section eds_name = record { section = section; key = codes "LastEDS"; value = eds_name } ∷ []

-- the node, its name and the rate in kbit/s
abbrev pub device_set : ℕ → ℕ → List ℕ → Rate → List Change
device_set section node name rate =
    record { section = section; key = codes "NodeID"; value = decimal node }
    ∷ record { section = section; key = codes "NodeName"; value = name }
    ∷ record { section = section; key = codes "Baudrate"; value = decimal (kbits_of rate) }
    ∷ []

-- the rows with a section for the file's name and one for the node, at the end where they are absent
abbrev pub with_sections : List Row → List Row
with_sections rows = with_section (codes "DeviceComissioning") (with_section (codes "FileInfo") rows)

-- the number of the section of a name
abbrev pub number_of : List ℕ → List Row → ℕ
number_of name rows = option_map_or (λ row. row.section) (find (has_name name) rows) 0

-- the numbers of the sections for the file's name and for the node
abbrev pub file_number : List Row → ℕ
file_number rows = number_of (codes "FileInfo") (with_sections rows)

abbrev pub device_number : List Row → ℕ
device_number rows = number_of (codes "DeviceComissioning") (with_sections rows)

-- what a DCF says beyond its EDS text: the last setting of each object, the file, and the node with its name and rate
abbrev pub changes_of : List ℕ → List Setting → ℕ → List ℕ → Rate → List ℕ → List Change
changes_of text settings node name rate eds_name =
    (values_from (setting_in text settings) 0 (section_count (rows_of text) + 1) ++ origin_set (file_number (rows_of text)) eds_name)
    ++ device_set (device_number (rows_of text)) node name rate

-- The DCF of an EDS text: each line is as it was, in its order, but for the keys that are set. A key's line is replaced
-- where the key is there, also with an empty value; else a line is added after the last line of the section that is its
-- header or a key.
abbrev pub dcf_of : List ℕ → List Setting → ℕ → List ℕ → Rate → List ℕ → List ℕ
dcf_of text settings node name rate eds_name =
    text_with text (with_keys (changes_of text settings node name rate eds_name) (with_sections (rows_of text)))
