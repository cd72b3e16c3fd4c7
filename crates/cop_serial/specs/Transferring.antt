-- A value of an object of one node is read or written at a port, as the program has it: the status that it ends with.
use Rattle.std.specs.Prelude.{ℕ, Option, Some, None}
use Rattle.cop_engine.specs.declared.faults.Fault.{Fault}
use Rattle.cop_transfer.specs.declared.carrying.End.TheVariants.{Done, Refused, GivenUp, Silent}
use Rattle.cop_transfer.specs.declared.transferring.Transferred.{Transferred}
use Rattle.cop_transfer.specs.declared.transferring.Transferred.TheVariants.{Ended, Left, Failed}
use Rattle.cop_serial.specs.Reasons.{refused_for}

-- 0 if the value was read or written, and 3 if it was not. What is refused and a line that failed are failures, and have none.
abbrev pub status_of : Transferred → Option ℕ
status_of (Ended Done) = Some 0
status_of (Ended (Refused code)) = Some 3
status_of (Ended (GivenUp code)) = Some 3
status_of (Ended Silent) = Some 3
status_of (Left reason) = None
status_of Failed = None

-- as what is refused what was found at the port
abbrev pub refused_as : Transferred → Option Fault
refused_as (Left reason) = Some (refused_for reason)
refused_as (Ended end) = None
refused_as Failed = None
