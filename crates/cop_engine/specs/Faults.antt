-- The program's faults, and its status after each.
use Rattle.std.specs.Prelude.{ℕ}
use Rattle.cop_engine.specs.declared.faults.Fault.{Fault}
use Rattle.cop_engine.specs.declared.faults.Fault.TheVariants as faults
use Rattle.cop_bus.specs.declared.faults.BusFault.{BusFault}
use Rattle.cop_bus.specs.declared.faults.BusFault.TheVariants as bus
use Rattle.cop_cert.specs.declared.faults.CertFault.{CertFault}
use Rattle.cop_cert.specs.declared.faults.CertFault.TheVariants as cert
use Rattle.cop_cert.specs.Faults as breaches
use Rattle.cop_net.specs.declared.faults.PlanFault.{PlanFault}
use Rattle.cop_net.specs.declared.faults.PlanFault.TheVariants as plans

-- what is refused of a network is kept whole
abbrev pub fault_of : PlanFault → Fault
fault_of (plans.Refused r) = faults.Network r
fault_of plans.Memory = faults.Memory

abbrev pub status_of : Fault → ℕ
status_of (faults.Network r) = 3
status_of (faults.Refused number place) = 3
status_of faults.Simulation = 3
status_of (faults.File name) = 5
status_of faults.Usage = 2
status_of faults.Memory = 6

-- what is refused of a refusal file keeps its number and its place
abbrev pub fault_of_refusals : CertFault → Fault
fault_of_refusals (cert.Refused b) = faults.Refused (breaches.number_of_rule b.rule) b.place
fault_of_refusals cert.Memory = faults.Memory

-- the same of a trace
abbrev pub fault_of_trace : BusFault → Fault
fault_of_trace (bus.Refused place number) = faults.Refused number place
fault_of_trace bus.Memory = faults.Memory
