-- What a plan relies on in a device, beside what it sets: types, mappings, and PDOs that are off.
use Rattle.std.specs.Prelude.{ℕ, ◌-◌, ◌^◌, Bool, not, ◌&&◌, List, ◌==◌, nat_le, nat_lt, length, if◌then◌else◌, Option, Some, None}
use Rattle.std.specs.List.{flat_map, list_any}
use Rattle.std.specs.Option.{option_map_or, option_to_list}
use Rattle.cop_dict.specs.Find.{Entry, entry_at}
use Rattle.cop_dict.specs.Pdo.{is_communication, is_mapping, is_cob_id}
use Rattle.cop_setup.specs.declared.setting.Setting.{Setting}
use Rattle.cop_identity.specs.declared.questions.Demand.{Demand}
use Rattle.cop_identity.specs.declared.questions.Demand.TheVariants.{Tell, TellOff}
use Rattle.cop_identity.specs.declared.questions.Question.{Question}
use Rattle.cop_identity.specs.Questions.{number_of}

-- a setting gives the PDO of a communication record its COB-ID, and one that has bit 31 clear switches it on (CiA 301, "PDO communication
-- parameter record")
abbrev pub is_of_pdo : ℕ → Setting → Bool
is_of_pdo index s = (s.index == index) && (s.sub == 1)

abbrev pub is_on : ℕ → Setting → Bool
is_on index s = is_of_pdo index s && nat_lt s.value (2 ^ 31)

-- a PDO is used if some setting switches it on, and it is set if some setting gives it a COB-ID; else it is left alone
abbrev pub is_used : List Setting → ℕ → Bool
is_used settings index = list_any (is_on index) settings

abbrev pub is_set : List Setting → ℕ → Bool
is_set settings index = list_any (is_of_pdo index) settings

-- how many entries the mapping at an index has; none where its count is no number of one byte
abbrev pub count_in : Entry → ℕ
count_in entry = if nat_le (length entry.value) 1 then number_of entry.value else 0

abbrev pub count_at : List Entry → ℕ → ℕ
count_at dict index = option_map_or count_in (entry_at dict index 0) 0

-- the transmission type of a PDO that is used
abbrev pub is_used_type : List Setting → Entry → Bool
is_used_type settings entry = is_communication entry.index && (entry.sub == 2) && is_used settings entry.index

-- the count of the mapping of a PDO that is used, and each of its entries ("PDO mapping parameter record")
abbrev pub is_used_mapping : List Entry → List Setting → Entry → Bool
is_used_mapping dict settings entry = is_mapping entry.index && nat_le entry.sub (count_at dict entry.index) && is_used settings (entry.index - 0x200)

-- the COB-ID of a PDO that is off by its device's file, and is left so
abbrev pub is_off_alone : List Setting → Entry → Bool
is_off_alone settings entry = is_cob_id entry && not (is_set settings entry.index)

-- a question to a node about an entry of at most four bytes, which is to have its value
abbrev pub question_to : ℕ → Demand → Entry → Option Question
question_to node demand entry =
    if nat_le (length entry.value) 4 then Some (record { node = node; demand = demand; at = record { index = entry.index; sub = entry.sub }; wanted = number_of entry.value }) else None

-- what a node is asked about an entry: a type or a mapping that is used is to be the file's, and a PDO that is left alone is to be off
abbrev pub relied_on : ℕ → List Entry → List Setting → Entry → Option Question
relied_on node dict settings entry =
    if is_used_type settings entry then question_to node Tell entry
    else (if is_used_mapping dict settings entry then question_to node Tell entry
    else (if is_off_alone settings entry then question_to node TellOff entry else None))

-- the questions whether the device of a node has what a plan that sets this in it relies on besides, by rising index and sub
abbrev pub relied_questions : ℕ → List Entry → List Setting → List Question
relied_questions node dict settings = flat_map (λ entry. option_to_list (relied_on node dict settings entry)) dict
