use Rattle.cop_eds.proofs.InsideLemmas.{lines_inside}
use Rattle.cop_eds.proofs.eds.Eds.lines.Goals as goal

pub returns-clause-inside : goal.returns-clause-inside
returns-clause-inside c = rw (← c.self.view_is, c.lines.ensures) (lines_inside c.self.inside.sections)
