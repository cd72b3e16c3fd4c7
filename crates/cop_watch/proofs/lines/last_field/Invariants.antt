use Rattle.std.proofs.Common.{◌≡◌, true, take}
use Rattle.std.specs.List.{list_all}
use Rattle.cop_watch.specs.Lines.{is_inner}
use Rattle.cop_watch.proofs.lines.last_field.Given as goal

abbrev pub invariant-loop-place : goal.invariant-loop-place
invariant-loop-place l = list_all is_inner (take l.place l.text) ≡ true
