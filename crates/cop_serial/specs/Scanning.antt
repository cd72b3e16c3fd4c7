-- Who is on a bus, as the program asks it: the nodes, and the status that it ends with.
use Rattle.std.specs.Prelude.{ℕ, List, length, ◌==◌, Option, Some, None, if◌then◌else◌}
use Rattle.cop_engine.specs.declared.faults.Fault.{Fault}
use Rattle.cop_scan.specs.declared.scanning.Scanned.{Scanned}
use Rattle.cop_scan.specs.declared.scanning.Scanned.TheVariants.{Seen, Left, Failed}
use Rattle.cop_serial.specs.Reasons.{refused_for}

-- 0 if some node answered, and 3 if none did. What is refused and a line that failed are failures, and have none.
abbrev pub status_of : Scanned → Option ℕ
status_of (Seen found) = Some (if length found.items == 0 then 3 else 0)
status_of (Left reason) = None
status_of Failed = None

-- as what is refused what was found at the port
abbrev pub refused_as : Scanned → Option Fault
refused_as (Left reason) = Some (refused_for reason)
refused_as (Seen found) = None
refused_as Failed = None
