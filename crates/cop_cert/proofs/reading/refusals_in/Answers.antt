use Rattle.std.proofs.Common.{◌≡◌, ◌+◌, length, arith}
use Rattle.std.proofs.lemmas.Result.{err_from_is_err_and}
use Rattle.cop_cert.specs.Faults.{breach_of}
use Rattle.cop_cert.proofs.ReadingLemmas.{goes_on, fails}
use Rattle.cop_cert.proofs.reading.refusals_in.Goals as goal

pub returns-in_err-take : goal.returns-in_err-take
returns-in_err-take c =
    let next = rw c.if-branch.true at c.in_ok-read.ensures.next in
    let p = err_from_is_err_and c.from_residual-in_err-take.result c.from_residual-in_err-take.ensures.1 in
    rw (p.1, p.2) (fails c.args.version c.rows.place c.rows.draft _ c.read.new.self c.rows.rows (breach_of c.in_err-take.field-0.0) _ next c.in_err-take.ensures c.rows.invariant.same)

pub rows-preserved : goal.rows-preserved
rows-preserved c =
    let next = rw c.if-branch.true at c.in_ok-read.ensures.next in
    let count : length c.rows.rows ≡ length c.read.new.self + 1 = rw next (omega arith) in
    record {
      small = omega (arith, c.rows.invariant.small, count);
      same = goes_on c.args.version c.rows.place c.rows.draft _ _ c.read.new.self c.rows.rows _ next c.in_ok-take.ensures c.rows.invariant.same;
    }
