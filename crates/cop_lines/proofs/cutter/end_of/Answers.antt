use Rattle.std.proofs.Common.{sym}
use Rattle.cop_lines.proofs.TextLemmas.{place_found, place_absent}
use Rattle.cop_lines.proofs.cutter.end_of.Goals as goal

pub returns-in-Some-clause-end : goal.returns-in-Some-clause-end
returns-in-Some-clause-end c =
    let found = c.in-Some.ensures in
    sym (place_found 10 c.args.piece.now c.in-Some.end found.0.high found.1 found.0.before)

pub returns-in-None-clause-end : goal.returns-in-None-clause-end
returns-in-None-clause-end c = sym (place_absent 10 c.args.piece.now c.in-None.ensures)
