use Rattle.std.proofs.Common.{◌++◌, ap, sym, ◌∙◌, append-nil}
use Rattle.cop_eds.specs.Rows.{rows_of}
use Rattle.cop_eds.specs.Edits.{newline_of}
use Rattle.cop_dcf.specs.Pieces.{section_of}
use Rattle.cop_dcf.proofs.PieceLemmas.{put_not, put_so}
use Rattle.cop_dcf.proofs.writing.put_absent.Goals as goal

pub returns-in-Some : goal.returns-in-Some
returns-in-Some c =
    let text = c.args.eds.now in
    let more = section_of text (newline_of (rows_of text)) c.args.keys.now c.args.name.now in
    sym (append-nil c.args.text.now.items) ∙ ap (λ xs. c.args.text.now.items ++ xs) (sym (put_not text c.args.name.now more c.in-Some.field-0 (sym c.section.ensures ∙ c.in-Some.is)))

pub returns-in-None : goal.returns-in-None
returns-in-None c =
    let text = c.args.eds.now in
    let more = section_of text (newline_of (rows_of text)) c.args.keys.now c.args.name.now in
    let none = put_so text c.args.name.now more (sym c.section.ensures ∙ c.in-None.is) in
    rw none c.put_section.ensures
