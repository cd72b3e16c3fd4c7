use Rattle.std.proofs.Common.{◌++◌, ap, sym, ◌∙◌, append_assoc, refl}
use Rattle.cop_eds.specs.Rows.{rows_of}
use Rattle.cop_eds.specs.Edits.{newline_of}
use Rattle.cop_dcf.specs.Runs.{run_of}
use Rattle.cop_dcf.proofs.PieceLemmas.{line_kept}
use Rattle.cop_dcf.proofs.writing.put_behind.Goals as goal

pub returns-then-is_kept-clause-put : goal.returns-then-is_kept-clause-put
returns-then-is_kept-clause-put c =
    let eds = c.args.eds.now in
    let line = c.args.line.now in
    let text = c.args.text.now.items in
    let run = c.args.run in
    let longer = c.with_line.ensures eds c.requires.run c.requires.inside c.requires.behind in
    let kept = line_kept eds (newline_of (rows_of eds)) c.args.keys.now line c.args.later.now (c.if-is_kept.ensures.none refl) c.requires.inside (c.if-is_kept.ensures.ended refl) in
    ap (λ xs. text ++ xs) (longer.bytes ∙ ap (λ xs. run_of eds run ++ xs) kept) ∙ sym (append_assoc text (run_of eds run) _)
