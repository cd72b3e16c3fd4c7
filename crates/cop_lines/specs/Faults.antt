-- The numbers of faults of a log's lines.
use Rattle.std.specs.Prelude.{ℕ}
use Rattle.cop_lines.specs.declared.faults.LineFault.{LineFault}
use Rattle.cop_lines.specs.declared.faults.LineFault.TheVariants.{Form, Stamp, Identifier, Data, Long, Distance}

abbrev pub number_of_fault : LineFault → ℕ
number_of_fault Form = 90
number_of_fault Stamp = 91
number_of_fault Identifier = 92
number_of_fault Data = 93
number_of_fault Long = 95
number_of_fault Distance = 96
