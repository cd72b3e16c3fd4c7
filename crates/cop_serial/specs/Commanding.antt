-- An NMT command is given at a port, as the program has it: the status that it ends with.
use Rattle.std.specs.Prelude.{ℕ, Option, Some, None}
use Rattle.cop_engine.specs.declared.faults.Fault.{Fault}
use Rattle.cop_command.specs.declared.commanding.Commanded.{Commanded}
use Rattle.cop_command.specs.declared.commanding.Commanded.TheVariants.{Given, Left, Failed}
use Rattle.cop_serial.specs.Reasons.{refused_for}

-- 0 if the command was sent. What is refused and a line that failed are failures, and have none.
abbrev pub status_of : Commanded → Option ℕ
status_of Given = Some 0
status_of (Left reason) = None
status_of Failed = None

-- as what is refused what was found at the port
abbrev pub refused_as : Commanded → Option Fault
refused_as (Left reason) = Some (refused_for reason)
refused_as Given = None
refused_as Failed = None
