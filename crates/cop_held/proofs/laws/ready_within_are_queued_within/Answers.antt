use Rattle.cop_held.proofs.CauseLemmas.{queued_within, held_apart}
use Rattle.cop_held.proofs.laws.ready_within_are_queued_within.Goals as goal

pub returns-clause-within : goal.returns-clause-within
returns-clause-within c = queued_within

pub returns-clause-apart : goal.returns-clause-apart
returns-clause-apart c = held_apart
