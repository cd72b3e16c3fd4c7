use Rattle.std.proofs.Common.{◌≡◌, [], take, drop}
use Rattle.cop_eds.specs.Lines.{first_refusal, lines_of}
use Rattle.cop_eds.proofs.sections.Sections.first_refusal.Given as goal

abbrev pub invariant-loop-place : goal.invariant-loop-place
invariant-loop-place l =
    first_refusal l.self (take l.place (lines_of l.self)) (drop l.place (lines_of l.self)) ≡ first_refusal l.self [] (lines_of l.self)
