use Rattle.std.proofs.Common.{◌≡◌, [], take, drop}
use Rattle.cop_eds.specs.Lines.{first_refusal}
use Rattle.cop_eds.proofs.sections.first_alone.Given as goal

abbrev pub invariant-loop-place : goal.invariant-loop-place
invariant-loop-place l = first_refusal l.source (take l.place l.lines) (drop l.place l.lines) ≡ first_refusal l.source [] l.lines
