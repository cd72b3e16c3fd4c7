-- The keys that something reads, in the spelling of CiA 306 and in others.
use Rattle.std.specs.Prelude.{ℕ, Bool, true, false, not, ◌||◌, List, codes, if◌then◌else◌, Option, Some, None}
use Rattle.cop_frame.specs.declared.rates.Rate.TheVariants as rates
use Rattle.cop_eds.specs.Text.{same_name}
use Rattle.cop_eds.specs.Number.{is_numeral, number_in}
use Rattle.cop_tidy_lines.specs.declared.names.SectionName.{SectionName}
use Rattle.cop_tidy_lines.specs.declared.names.SectionName.TheVariants as names
use Rattle.cop_tidy_lines.specs.declared.keys.Key.{Key}
use Rattle.cop_tidy_lines.specs.declared.keys.Key.TheVariants as keys
use Rattle.cop_tidy_lines.specs.Numerals.{hexadecimal_digits}
use Rattle.cop_tidy_lines.specs.Words.{undivided}

-- a key of an object's section
unfoldable pub object_key : List ℕ → Key
object_key word =
    if same_name word (codes "ObjectType") then keys.ObjectType
    else if same_name word (codes "DataType") then keys.DataType
    else if same_name word (codes "AccessType") then keys.AccessType
    else if same_name word (codes "DefaultValue") then keys.DefaultValue
    else if same_name word (codes "ParameterValue") then keys.ParameterValue
    else if same_name word (codes "PDOMapping") then keys.PdoMapping
    else if same_name word (codes "LowLimit") then keys.LowLimit
    else if same_name word (codes "HighLimit") then keys.HighLimit
    else if same_name word (codes "CompactSubObj") then keys.CompactSubObj
    else keys.Unread

-- a key of the bit rates in DeviceInfo; underlines are gone from the word
unfoldable pub rate_key : List ℕ → Key
rate_key word =
    if same_name word (codes "BaudRate10") then keys.BaudRate rates.Kbit10
    else if same_name word (codes "BaudRate20") then keys.BaudRate rates.Kbit20
    else if same_name word (codes "BaudRate50") then keys.BaudRate rates.Kbit50
    else if same_name word (codes "BaudRate125") then keys.BaudRate rates.Kbit125
    else if same_name word (codes "BaudRate250") then keys.BaudRate rates.Kbit250
    else if same_name word (codes "BaudRate500") then keys.BaudRate rates.Kbit500
    else if same_name word (codes "BaudRate800") then keys.BaudRate rates.Kbit800
    else if same_name word (codes "BaudRate1000") then keys.BaudRate rates.Kbit1000
    else keys.Unread

-- a key of DeviceInfo
unfoldable pub device_key : List ℕ → Key
device_key word =
    if same_name word (codes "CompactPDO") then keys.CompactPdo
    else if same_name word (codes "NrOfRXPDO") then keys.ReceivedPdos
    else if same_name word (codes "NrOfTXPDO") then keys.SentPdos
    else rate_key word

-- the key of an entry with this number, where there is one
abbrev pub entry_key : Option ℕ → Key
entry_key None = keys.Unread
entry_key (Some n) = keys.Entry n

-- a key of a list: the number of an entry, or how many there are
unfoldable pub list_key : List ℕ → Key
list_key key =
    if is_numeral 10 key then entry_key (number_in 10 key)
    else if same_name (undivided key) (codes "SupportedObjects") then keys.SupportedObjects
    else keys.Unread

-- digits that are hexadecimal by a mark, or by themselves
abbrev pub marked_or_bare : Option (List ℕ) → List ℕ → List ℕ
marked_or_bare None key = key
marked_or_bare (Some digits) key = digits

-- a key of a section with the values of a compact form: the sub, decimal in CiA 306
unfoldable pub value_key : List ℕ → Key
value_key key =
    if is_numeral 10 key then entry_key (number_in 10 key)
    else if same_name (undivided key) (codes "NrOfEntries") then keys.NrOfEntries
    else entry_key (number_in 16 (marked_or_bare (hexadecimal_digits key) key))

-- the key that a text is in a section of this name
unfoldable pub key_meant : SectionName → List ℕ → Key
key_meant (names.Object index) key = object_key (undivided key)
key_meant (names.Sub index sub) key = object_key (undivided key)
key_meant (names.Values index) key = value_key key
key_meant (names.List list) key = list_key key
key_meant names.DeviceInfo key = device_key (undivided key)
key_meant (names.Names index) key = keys.Unread
key_meant names.Unread key = keys.Unread

-- nothing reads the key
abbrev pub is_unread : Key → Bool
is_unread keys.Unread = true
is_unread _ = false

-- a key of CiA 306 in an object's section, also one of those that nothing reads
abbrev pub is_object_word : List ℕ → Bool
is_object_word word =
    not (is_unread (object_key word))
    || ((same_name word (codes "ParameterName") || same_name word (codes "SubNumber")) || (same_name word (codes "ObjFlags") || same_name word (codes "Denotation")))
