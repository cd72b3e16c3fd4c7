use Rattle.std.proofs.Common.{◌+◌, sym, arith, length-drop}
use Rattle.std.proofs.lemmas.List.{take_rest}
use Rattle.cop_rows.proofs.PartLemmas.{parts_cut}
use Rattle.cop_rows.proofs.fields.cut.Goals as goal

pub returns-in-Some : goal.returns-in-Some
returns-in-Some c =
    let p = parts_cut c.args.byte c.args.text.now c.in-Some.place (sym c.in-Some.ensures.place) in
    rw (take_rest c.args.text.now (c.in-Some.place + 1)) (p.1, omega (arith, length-drop (c.in-Some.place + 1) c.args.text.now, p.0))
