use Rattle.std.proofs.Common.{◌≡◌, ◌≤◌, length, ap, sym, ◌∙◌, arith}
use Rattle.std.specs.Option.{option_copied}
use Rattle.cop_eds.specs.Lines.{lines_of}
use Rattle.cop_eds.specs.Rows.{rows_of}
use Rattle.cop_eds.specs.Edits.{section_count}
use Rattle.cop_dcf.proofs.PieceLemmas.{count_last, count_small}
use Rattle.cop_dcf.proofs.section_keys.section_count.Goals as goal

pub returns-in-Some-clause-value : goal.returns-in-Some-clause-value
returns-in-Some-clause-value c =
    let own = count_last c.args.eds.now c.lines.result.now c.in-Some.line.now (sym c.last.ensures.value ∙ ap option_copied c.in-Some.is) in
    sym (rw c.lines.ensures.lines at own)

pub returns-in-Some-clause-most : goal.returns-in-Some-clause-most
returns-in-Some-clause-most c =
    let own = count_last c.args.eds.now c.lines.result.now c.in-Some.line.now (sym c.last.ensures.value ∙ ap option_copied c.in-Some.is) in
    let same : section_count (rows_of c.args.eds.now) ≡ c.in-Some.line.now.section = rw c.lines.ensures.lines at own in
    let small : section_count (rows_of c.args.eds.now) ≤ length (lines_of c.args.eds.now) = count_small c.args.eds.now in
    let size : length c.lines.result.now ≡ length (lines_of c.args.eds.now) = ap length c.lines.ensures.lines in
    omega arith
