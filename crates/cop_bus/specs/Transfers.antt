-- The transfers of a run.
use Rattle.std.specs.Prelude.{ℕ, ◌+◌, ◌*◌, List, Option, None, Some, nat_le, if◌then◌else◌}
use Rattle.std.specs.List.{filter_map}
use Rattle.cop_bus.specs.declared.steps.Step.{Step}
use Rattle.cop_bus.specs.declared.steps.Step.TheVariants.{Queue, Start, End}
use Rattle.cop_bus.specs.declared.transfers.Transfer.{Transfer}
use Rattle.cop_bus.specs.Run.{Instance}
use Rattle.cop_bus.specs.Trace.{instances}

-- the transfer of so many bits from its start, if there is one and it has ended by the end of the run
abbrev pub transfer_from : ℕ → ℕ → ℕ → ℕ → ℕ → Option ℕ → Option Transfer
transfer_from tau until id queued bits None = None
transfer_from tau until id queued bits (Some s) =
    if nat_le (s + bits * tau) until then Some (record { id = id; queued = queued; started = s; ended = s + bits * tau }) else None

-- the transfer of an instance, if it has ended by the end of the run
abbrev pub transfer_of : ℕ → ℕ → Instance → Option Transfer
transfer_of tau until y = transfer_from tau until y.id y.queued y.bits y.start

-- the transfers of a run that have ended by its end, in the order in which their instances are queued
abbrev pub transfers_of : ℕ → ℕ → List Step → List Transfer
transfers_of tau until steps = filter_map (transfer_of tau until) (instances steps)

-- the transfer of the instance that a step queues, by the moment at which it is sent
abbrev pub transfer_at : ℕ → ℕ → Step → Option ℕ → Option Transfer
transfer_at tau until (Queue id at event frame) sent = transfer_from tau until id at frame.bits sent
transfer_at tau until (Start id at) sent = None
transfer_at tau until (End id at) sent = None
