-- The numbers of what a project file breaks.
use Rattle.std.specs.Prelude.{ℕ, Option, Some, None}
use Rattle.cop_project.specs.declared.project.Rule.{Rule}
use Rattle.cop_project.specs.declared.project.Rule.TheVariants.{Key, Value}
use Rattle.cop_project.specs.declared.project.Refusal.{Refusal}
use Rattle.cop_project.specs.declared.project.ProjectFault.{ProjectFault}
use Rattle.cop_project.specs.declared.project.ProjectFault.TheVariants.{NoToml, Broken, Memory}

abbrev pub number_of : Rule → ℕ
number_of Key = 151
number_of Value = 152

-- what is said of a text that is refused
abbrev pub refusal_of : ProjectFault → Option Refusal
refusal_of (NoToml line) = Some (record { number = 150; line = line })
refusal_of (Broken rule line) = Some (record { number = number_of rule; line = line })
refusal_of Memory = None
