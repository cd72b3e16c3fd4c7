use Rattle.std.proofs.Common.{◌≡◌, ◌-◌, ◌≤◌, ◌++◌, false, length, take, drop}
use Rattle.cop_tidy_lines.specs.Blanks.{before_comment}
use Rattle.cop_tidy_lines.proofs.blanks.before_comment.Given as goal

abbrev pub invariant-loop-place : goal.invariant-loop-place
invariant-loop-place l = (l.place ≤ length l.bytes) × (take l.place l.bytes ++ before_comment l.after_blank (drop l.place l.bytes) ≡ before_comment false l.bytes)

abbrev pub decreases-loop-place : goal.decreases-loop-place
decreases-loop-place l = length l.bytes - l.place
