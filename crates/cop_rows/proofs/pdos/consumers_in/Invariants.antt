use Rattle.std.proofs.Common.{◌≡◌}
use Rattle.cop_rows.specs.Fields.{each}
use Rattle.cop_rows.specs.PdoReading.{consumer_of, consumers_of}
use Rattle.cop_rows.proofs.ConsumerLemmas.{after, left_parts, left_length}
use Rattle.cop_rows.proofs.pdos.consumers_in.Given as goal

abbrev pub invariant-parts : goal.invariant-parts
invariant-parts l = after l.items.items (each consumer_of (left_parts l.rest)) ≡ consumers_of l.text

abbrev pub decreases-parts : goal.decreases-parts
decreases-parts l = left_length l.rest
