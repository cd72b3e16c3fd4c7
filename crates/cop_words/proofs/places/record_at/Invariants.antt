use Rattle.std.proofs.Common.{◌≤◌, length}
use Rattle.cop_words.proofs.places.record_at.Given as goal

abbrev pub invariant-records : goal.invariant-records
invariant-records l = length l.rest ≤ length l.text

abbrev pub decreases-records : goal.decreases-records
decreases-records l = length l.rest
