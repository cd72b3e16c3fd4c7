use Rattle.std.proofs.Common.{◌≡◌, ℕ, ◌<◌, false}
use Rattle.cop_project.specs.Words.{texts, names_project}
use Rattle.cop_project.proofs.words.project_word.Given as goal

abbrev pub invariant-loop-i : goal.invariant-loop-i
invariant-loop-i l = (k : ℕ) → k < l.i → names_project (texts l.words) k ≡ false
