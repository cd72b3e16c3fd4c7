use Rattle.std.proofs.Common.{◌≡◌, ◌+◌, ◌-◌, ℕ, length, get_or}
use Rattle.cop_eds.proofs.bits.widen.Given as goal

abbrev pub invariant-loop-words : goal.invariant-loop-words
invariant-loop-words l = (k : ℕ) → get_or l.words.items k 0 ≡ get_or l.initial.words.items k 0

abbrev pub decreases-loop-words : goal.decreases-loop-words
decreases-loop-words l = l.place + 1 - length l.words.items
