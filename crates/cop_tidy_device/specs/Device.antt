-- A device, as a maker's text describes it for each node.
use Rattle.std.specs.Prelude.{ℕ, List, map, unwrap_or, ℤ, Option}
use Rattle.std.specs.Int.{bytes_low_first}
use Rattle.std.specs.Option.{option_map, option_and_then}
use Rattle.cop_frame.specs.declared.rates.Rate.{Rate}
use Rattle.cop_eds.specs.declared.amount.Amount.{Amount}
use Rattle.cop_dict.specs.declared.data_type.DataType.{DataType}
use Rattle.cop_dict.specs.declared.description.Description.{Description}
use Rattle.cop_dict.specs.Types.{greatest_of}
use Rattle.cop_dict.specs.Number.{value_of}
use Rattle.cop_dict.specs.Patterns.{pattern_of}
use Rattle.cop_dict.specs.Build.{zeros, least_width}
use Rattle.cop_dict.specs.Find.{Entry}
use Rattle.cop_tidy_device.specs.declared.device.Value.{Value}
use Rattle.cop_tidy_device.specs.declared.device.Value.TheVariants.{Nothing, Number, Text}
use Rattle.cop_tidy_device.specs.declared.device.DeviceObject.{DeviceObject}

-- what a maker's text means: the rates of the device, slowest first, the indexes that its lists name, and its objects, both by rising index
-- and sub
pub record Meaning : Type 0 where
  pub rates : List Rate
  pub listed : List ℕ
  pub objects : List DeviceObject

-- the pattern of an amount for a node, in a type that has numbers and this one
abbrev pub pattern_for : DataType → ℕ → Amount → Option ℕ
pattern_for data_type node amount = option_and_then (λ greatest. pattern_of data_type greatest node amount) (greatest_of data_type)

-- the bytes of a value for a node: those of a number are as many as its type has, the least significant first, and 0 where the type has not
-- the number
abbrev pub bytes_for : DataType → ℕ → Value → List ℕ
bytes_for data_type node Nothing = zeros data_type
bytes_for data_type node (Number amount) = bytes_low_first 0 (least_width data_type) (unwrap_or (pattern_for data_type node amount) 0)
bytes_for data_type node (Text bytes) = bytes

-- a limit for a node: none where the type has not the number
abbrev pub limit_for : DataType → ℕ → Option Amount → Option ℤ
limit_for data_type node amount = option_map (value_of data_type) (option_and_then (pattern_for data_type node) amount)

-- the type, access, mapping flag and limits of an object for a node (CiA 306: DataType, AccessType, PDOMapping, LowLimit, HighLimit)
abbrev pub description_for : ℕ → DeviceObject → Description
description_for node object = record {
  data_type = object.data_type;
  access = object.access;
  is_mappable = object.is_mappable;
  low = limit_for object.data_type node object.low;
  high = limit_for object.data_type node object.high;
}

-- an object as it stands in the dictionary of a node; its value is its initial one (CiA 306: ParameterValue, else DefaultValue)
abbrev pub entry_for : ℕ → DeviceObject → Entry
entry_for node object = record {
  index = object.index;
  sub = object.sub;
  description = description_for node object;
  initial = bytes_for object.data_type node object.value;
  value = bytes_for object.data_type node object.value;
}

-- the dictionary of a device for a node: the entries of its objects, in their order
unfoldable pub dictionary_for : ℕ → Meaning → List Entry
dictionary_for node device = map (entry_for node) device.objects
