use Rattle.std.proofs.Common.{◌≡◌, length}
use Rattle.cop_project.specs.Lines.{without_lead}
use Rattle.cop_project.proofs.lines.without_lead.Given as goal

abbrev pub invariant-loop-first : goal.invariant-loop-first
invariant-loop-first l = without_lead l.rest ≡ without_lead l.text

abbrev pub decreases-loop-first : goal.decreases-loop-first
decreases-loop-first l = length l.rest
