-- The numbers of the refusals.
use Rattle.std.specs.Prelude.{ℕ}
use Rattle.cop_eds.specs.declared.fault.Rule.{Rule}
use Rattle.cop_eds.specs.declared.fault.Rule.TheVariants.{Line, SectionRepeated, KeyRepeated, Number, AmbiguousNumber, ObjectMissing, UnknownType, CompactForm, TooLarge}

abbrev pub number_of : Rule → ℕ
number_of Line = 10
number_of SectionRepeated = 11
number_of KeyRepeated = 12
number_of Number = 13
number_of AmbiguousNumber = 14
number_of ObjectMissing = 15
number_of UnknownType = 16
number_of CompactForm = 17
number_of TooLarge = 18
