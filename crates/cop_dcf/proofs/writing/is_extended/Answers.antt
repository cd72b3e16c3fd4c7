use Rattle.cop_dcf.proofs.PieceLemmas.{extended_then, extended_else}
use Rattle.std.proofs.Common.{sym, ◌∙◌}
use Rattle.cop_dcf.proofs.writing.is_extended.Goals as goal
use Rattle.cop_dcf.proofs.writing.is_extended.Goals.{then-is_some, else-is_some}

pub returns : goal.returns
returns c = elim c.if-is_some.branch [
  | then-is_some w ↦
      extended_then c.args.eds.now c.section.result w.section-then-is_some.result c.if-is_some.result c.section.ensures w.section-then-is_some.ensures
      (sym c.is_some.ensures ∙ w.if-is_some.true) (w.result-is ∙ w.is_some-then-is_some.ensures)
  | else-is_some w ↦
      extended_else c.args.eds.now c.section.result c.if-is_some.result c.section.ensures (sym c.is_some.ensures ∙ w.if-is_some.false) (w.result-is ∙ w.if-is_some.false)
]
