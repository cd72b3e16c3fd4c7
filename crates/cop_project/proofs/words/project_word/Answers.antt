use Rattle.std.proofs.Common.{below_more, sym, ◌∙◌}
use Rattle.cop_project.proofs.words.project_word.Goals as goal

pub loop-i-preserved : goal.loop-i-preserved
loop-i-preserved c = below_more _ _ c.loop-i.invariant (sym c.names_project.ensures ∙ c.if-names_project.false)
