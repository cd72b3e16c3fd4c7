use Rattle.std.proofs.Common.{◌≡◌, ◌<◌, ℕ}
use Rattle.std.specs.Prelude.{Some, slice_get}
use Rattle.cop_watch.specs.declared.syncs.EndedSync.{EndedSync}
use Rattle.cop_watch.proofs.syncs.recalled.Given as goal

abbrev pub invariant-loop-kept : goal.invariant-loop-kept
invariant-loop-kept l = (place : ℕ) (s : EndedSync) → place < l.kept-index → slice_get l.recent place ≡ Some (Some s) → s.event ≡ l.event → ⊥
