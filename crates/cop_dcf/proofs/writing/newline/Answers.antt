use Rattle.std.proofs.Common.{◌≡◌, ◌∷◌, ◌==◌, [], cond, length, ap, sym, ◌∙◌}
use Rattle.std.specs.Prelude.{slice_range}
use Rattle.std.specs.Option.{option_copied}
use Rattle.cop_eds.specs.Rows.{rows_of}
use Rattle.cop_eds.specs.Edits.{newline_of}
use Rattle.cop_dcf.proofs.PieceLemmas.{newline_first, no_end}
use Rattle.cop_dcf.proofs.writing.newline.Goals as goal

pub returns-then-first : goal.returns-then-first
returns-then-first c =
    let text = c.args.eds.now in
    let line = c.in-Some.first.now in
    let own = newline_first text c.lines.result.now line (sym c.first.ensures.value ∙ ap option_copied c.in-Some.is) in
    let all : newline_of (rows_of text) ≡ cond (length (slice_range text line.to line.next) == 0) (10 ∷ []) (slice_range text line.to line.next) = rw c.lines.ensures.lines at own in
    sym (all ∙ no_end text line.to line.next (10 ∷ []) c.if-first.true)
