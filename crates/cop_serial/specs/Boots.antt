-- The boot over a port as the program has it: how an order is met, and the status that it ends with.
use Rattle.std.specs.Prelude.{◌≡◌, ℕ, ◌*◌, ◌==◌, ◌&&◌, nat_le, if◌then◌else◌, Option, Some, None}
use Rattle.std.specs.Option.{option_map_or}
use Rattle.cop_engine.specs.declared.faults.Fault.{Fault}
use Rattle.cop_engine.specs.declared.faults.Fault.TheVariants.{Refused}
use Rattle.cop_orders.specs.declared.orders.MachineOrder.{MachineOrder}
use Rattle.cop_commission.specs.declared.commissioning.Watch.{Watch}
use Rattle.cop_commission.specs.declared.commissioning.Watch.TheVariants.{Never, OnceEach, For}
use Rattle.cop_commission.specs.declared.commissioning.Approach.{Approach}
use Rattle.cop_commission.specs.declared.commissioning.Commissioned.{Commissioned}
use Rattle.cop_commission.specs.declared.commissioning.Commissioned.TheVariants.{Ended, Running, Garbled, Erroneous, Unopened, Others, Unrestored, Absent, NonePasses, Failed}

-- the ticks of so many seconds, at most 2^64 - 1
abbrev pub ticks_of_seconds : ℕ → ℕ
ticks_of_seconds seconds = if nat_le (seconds * 4000000) 18446744073709551615 then seconds * 4000000 else 18446744073709551615

-- heartbeats are awaited for so many seconds, and 0 for not at all; otherwise until the time of each has passed
abbrev pub watch_of : Option ℕ → Watch
watch_of None = OnceEach
watch_of (Some seconds) = if seconds == 0 then Never else For (ticks_of_seconds seconds)

-- an order says how the devices are approached
abbrev pub approach_of : MachineOrder → Approach
approach_of order = record {
  take_over = order.take_over;
  identify = order.identify;
  reach = record { only = order.only; start = order.start };
  boot_limit = ticks_of_seconds order.boot_limit;
  restore = order.restore;
  store = order.store;
  watch = watch_of order.watch;
}

-- 0 if all nodes are ready and each that was to be heard is operational; 3 if some is not, or a device is another one than is planned; 4 if
-- no rate passes. What is refused and a line that failed are failures, and have none.
abbrev pub status_of : Commissioned → Option ℕ
status_of (Ended answer ready started operational at) = Some (if ready && operational then 0 else 3)
status_of (Others answer all) = Some 3
status_of (Unrestored answer) = Some 3
status_of NonePasses = Some 4
status_of (Running runner) = None
status_of (Garbled lines) = None
status_of (Erroneous flags at) = None
status_of (Unopened command at) = None
status_of Absent = None
status_of (Failed answer) = None

-- as what is refused what was found at the port: by the number of its rule, and a place
abbrev pub refused_as : Option ℕ → Commissioned → Option Fault
refused_as only (Running runner) = Some (Refused 100 runner.node)
refused_as only Absent = Some (Refused 101 (option_map_or (λ node. node) only 0))
refused_as only (Erroneous flags at) = Some (Refused 102 0)
refused_as only (Garbled lines) = Some (Refused 103 lines)
refused_as only (Unopened command at) = Some (Refused 104 0)
refused_as only (Ended answer ready started operational at) = None
refused_as only (Others answer all) = None
refused_as only (Unrestored answer) = None
refused_as only NonePasses = None
refused_as only (Failed answer) = None

-- what is refused fails so, even if there is no memory for its words
abbrev pub FailsBy : Option Fault → Fault → Type 0
FailsBy None fault = Unit {0}
FailsBy (Some refused) fault = fault ≡ refused
