-- A bus is watched at a port, as the program has it.
use Rattle.std.specs.Prelude.{Option, Some, None}
use Rattle.cop_engine.specs.declared.faults.Fault.{Fault}
use Rattle.cop_engine.specs.declared.faults.Fault.TheVariants.{Refused}
use Rattle.cop_listen.specs.declared.listening.Listened.{Listened}
use Rattle.cop_listen.specs.declared.listening.Listened.TheVariants.{Ended, Unopened, Failed}

-- as what is refused what was found at the port
abbrev pub refused_as : Listened → Option Fault
refused_as (Unopened command) = Some (Refused 104 0)
refused_as (Ended answer) = None
refused_as Failed = None
