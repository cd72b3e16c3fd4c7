-- The devices at a port are asked whether they are as planned, as the program has it: how, and the status that it ends with.
use Rattle.std.specs.Prelude.{ℕ, ◌*◌, nat_le, if◌then◌else◌, Option, Some, None}
use Rattle.std.specs.Option.{option_map_or}
use Rattle.cop_engine.specs.declared.faults.Fault.{Fault}
use Rattle.cop_engine.specs.declared.faults.Fault.TheVariants.{Refused}
use Rattle.cop_orders.specs.declared.orders.VerifyOrder.{VerifyOrder}
use Rattle.cop_verify.specs.declared.verifying.Way.{Way}
use Rattle.cop_verify.specs.declared.verifying.Verified.{Verified}
use Rattle.cop_verify.specs.declared.verifying.Verified.TheVariants.{Asked, Left, Absent, NonePasses, Failed}
use Rattle.cop_serial.specs.Reasons.{refused_for}

-- the ticks of so many milliseconds, at most 2^64 - 1
abbrev pub ticks_of_milliseconds : ℕ → ℕ
ticks_of_milliseconds milliseconds = if nat_le (milliseconds * 4000) 18446744073709551615 then milliseconds * 4000 else 18446744073709551615

-- an order says how the devices are asked
abbrev pub way_of : VerifyOrder → Way
way_of order = record { only = order.only; pause = ticks_of_milliseconds order.gently }

-- 0 if each node is as planned, and 3 if some is not; 4 if no rate passes. What is refused and a line that failed are failures, and have none.
abbrev pub status_of : Verified → Option ℕ
status_of (Asked answer all planned at) = Some (if planned then 0 else 3)
status_of NonePasses = Some 4
status_of (Left reason at) = None
status_of Absent = None
status_of Failed = None

-- as what is refused what was found at the port: by the number of its rule, and a place
abbrev pub refused_as : Option ℕ → Verified → Option Fault
refused_as only Absent = Some (Refused 101 (option_map_or (λ node. node) only 0))
refused_as only (Left reason at) = Some (refused_for reason)
refused_as only (Asked answer all planned at) = None
refused_as only NonePasses = None
refused_as only Failed = None
