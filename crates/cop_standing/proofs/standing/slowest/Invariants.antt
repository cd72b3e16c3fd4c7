use Rattle.std.proofs.Common.{◌≢◌, [], ℕ, ◌<◌, get_or}
use Rattle.cop_standing.specs.declared.answers.Answer.{Answer}
use Rattle.cop_standing.proofs.standing.slowest.Given as goal

abbrev pub invariant-loop-place : goal.invariant-loop-place
invariant-loop-place l = (k : ℕ) (a : Answer) → k < l.place → (get_or l.answers k a).failing.items ≢ []
