-- Why a project file is refused.
use Rattle.std.specs.Prelude.{◌≡◌, ℕ, List, Some, None, Err}
use Rattle.cop_project.specs.declared.project.ProjectFault.{ProjectFault}
use Rattle.cop_project.specs.declared.project.ProjectFault.TheVariants.{NoToml, Broken, Memory}
use Rattle.cop_project.specs.Lines.{IsLineOf, key_line}
use Rattle.cop_project.specs.Project.{project_of}

-- the text is no TOML, which shows at one of its lines, or a key breaks this rule, and this is the line of that key; of memory nothing is said
abbrev pub IsRefusedBy : List ℕ → ProjectFault → Type 0
IsRefusedBy text (NoToml line) = (project_of text ≡ None) × IsLineOf text line
IsRefusedBy text (Broken rule line) = (k : List ℕ) × (project_of text ≡ Some (Err (rule, k))) × (line ≡ key_line k text)
IsRefusedBy text Memory = Unit {0}
