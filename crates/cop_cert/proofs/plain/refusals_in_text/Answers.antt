use Rattle.std.proofs.Common.{ap, ◌∙◌, rules}
use Rattle.cop_cert.specs.Faults.{placed}
use Rattle.cop_cert.specs.Reading.{refusals_in}
use Rattle.cop_cert.specs.Plain.{rows_of_text}
use Rattle.cop_cert.proofs.PlainLemmas.{none_left, ends_badly}
use Rattle.cop_cert.proofs.plain.refusals_in_text.Goals as goal

pub returns-in-Ok : goal.returns-in-Ok
returns-in-Ok c =
    none_left c.args.version c.loop-first.place c.loop-first.draft c.loop-first.rest.now (refusals_in c.args.version (rows_of_text c.args.text.now)) (search rules) c.loop-first.invariant.same
    ∙ ap (placed c.loop-first.place) c.in-Ok.ensures

pub returns : goal.returns
returns c =
    rw c.at.ensures
    (ends_badly c.loop-first.place c.loop-first.draft c.in-Err.fault (refusals_in c.args.version (rows_of_text c.args.text.now))
    (none_left c.args.version c.loop-first.place c.loop-first.draft c.loop-first.rest.now (refusals_in c.args.version (rows_of_text c.args.text.now)) (search rules) c.loop-first.invariant.same)
    c.in-Err.ensures)
