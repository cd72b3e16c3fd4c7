use Rattle.std.proofs.Common.{take}
use Rattle.cop_dcf.specs.Identifiers.{takes, IsNoted}
use Rattle.cop_dcf.proofs.identifiers.note_consumers.Given as goal

abbrev pub invariant-loop-consumer : goal.invariant-loop-consumer
invariant-loop-consumer l = IsNoted l.places l.initial.places (takes (take l.consumer-index l.consumers) l.node) l.id
