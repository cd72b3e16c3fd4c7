use Rattle.std.proofs.Common.{◌≡◌, drop}
use Rattle.cop_net.specs.Steps.{folded}
use Rattle.cop_net.specs.Pdos.{consumer_added}
use Rattle.cop_net.proofs.pdos.add_consumers.Given as goal

abbrev pub invariant-loop-consumer : goal.invariant-loop-consumer
invariant-loop-consumer l =
    folded (consumer_added l.devices.devices l.signals l.place l.sent) l.used (drop l.consumer-index l.consumers)
    ≡ folded (consumer_added l.devices.devices l.signals l.place l.sent) l.initial.used l.consumers
