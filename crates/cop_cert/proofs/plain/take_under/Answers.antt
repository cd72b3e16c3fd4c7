use Rattle.std.proofs.Common.{sym, arith}
use Rattle.std.proofs.lemmas.Result.{err_from_is_err_and}
use Rattle.cop_cert.specs.Faults.{breach_of}
use Rattle.cop_cert.specs.Plain.{rows_of_text, leads}
use Rattle.cop_cert.proofs.PlainLemmas.{under_more, under_fails}
use Rattle.cop_cert.proofs.plain.take_under.Goals as goal

pub returns-in_err-take_entry-clause-leads : goal.returns-in_err-take_entry-clause-leads
returns-in_err-take_entry-clause-leads c = λ version before.
    let p = err_from_is_err_and c.from_residual.result c.from_residual.ensures.1 in
    rw (p.1, p.2)
    (under_fails version c.loop-value.place c.loop-value.draft c.args.entry c.args.head.now c.loop-value.rest.now c.in-Some.left.now c.in-Some.value (breach_of c.in_err-take_entry.field-0.0)
    (leads version c.args.place c.args.draft.now (rows_of_text c.args.text.now)) before c.in-Some.ensures c.in_err-take_entry.ensures (sym (c.loop-value.invariant.same version before)))

pub loop-value-preserved : goal.loop-value-preserved
loop-value-preserved c = record {
  within = omega (arith, c.in-Some.ensures.shorter, c.loop-value.invariant.within);
  shorter = omega (arith, c.in-Some.ensures.shorter, c.loop-value.invariant.shorter);
  same = λ version before.
      sym
      (under_more version c.loop-value.place c.loop-value.draft c.take_entry.new.draft c.args.entry c.args.head.now c.loop-value.rest.now c.in-Some.left.now c.in-Some.value
      (leads version c.args.place c.args.draft.now (rows_of_text c.args.text.now)) before c.in-Some.ensures c.in_ok-take_entry.ensures (sym (c.loop-value.invariant.same version before)));
}
