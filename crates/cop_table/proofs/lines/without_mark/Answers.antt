use Rattle.std.proofs.Common.{◌≤◌, ◌-◌, length, drop, sym, ◌∙◌, arith, length-drop}
use Rattle.std.proofs.lemmas.List.{take_all}
use Rattle.cop_table.proofs.LineLemmas.{marked, unmarked}
use Rattle.cop_table.proofs.lines.without_mark.Goals as goal

pub returns-then-has_mark : goal.returns-then-has_mark
returns-then-has_mark c =
    let text = c.args.text.now in
    let all : length (drop 3 text) ≤ length text - 3 = omega (arith, length-drop 3 text) in
    take_all (length text - 3) (drop 3 text) all ∙ (marked text (sym c.has_mark.ensures ∙ c.if-has_mark.true)).rest

pub returns-else-has_mark : goal.returns-else-has_mark
returns-else-has_mark c = unmarked _ (sym c.has_mark.ensures ∙ c.if-has_mark.false)
