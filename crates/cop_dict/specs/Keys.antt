-- What the section of an object says of its value and of its limits.
use Rattle.std.specs.Prelude.{◌≡◌, ℕ, List, codes, map, option_map, Option}
use denote.Ref.{Bor}
use Rattle.cop_eds.specs.declared.description.Object.{Object}
use Rattle.cop_eds.specs.Sections.{entry_of}
use Rattle.cop_eds.specs.Objects.{objects_of}
use Rattle.cop_dict.specs.declared.blueprint.Keys.{Keys}
use Rattle.cop_dict.specs.Build.{value_entry}

-- the line and the text of an object's value, of its low limit and of its high limit, where the section has them
pub record KeysValue : Type 0 where
  pub value : Option (ℕ × List ℕ)
  pub low : Option (ℕ × List ℕ)
  pub high : Option (ℕ × List ℕ)

-- a line and the text that is borrowed
abbrev pub as_text : Option (ℕ × Bor (List ℕ)) → Option (ℕ × List ℕ)
as_text entry = option_map (λ e. (e.0, e.1.now)) entry

-- what keys that were looked up say
abbrev pub said : Keys → KeysValue
said keys = record { value = as_text keys.value; low = as_text keys.low; high = as_text keys.high }

-- what the section of an object says (CiA 306): ParameterValue, else DefaultValue; LowLimit; HighLimit
abbrev pub keys_of : List ℕ → Object → KeysValue
keys_of text object = record {
  value = value_entry text object.place.section;
  low = entry_of text object.place.section (codes "LowLimit");
  high = entry_of text object.place.section (codes "HighLimit");
}

-- what is said of each object of a text, in their order
abbrev pub AreKeys : List ℕ → List Keys → Type 0
AreKeys text keys = map said keys ≡ map (keys_of text) (objects_of text)
