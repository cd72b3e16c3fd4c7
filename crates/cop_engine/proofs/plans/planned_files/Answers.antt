use Rattle.std.proofs.Common.{refl}
use Rattle.cop_engine.proofs.plans.planned_files.Goals as goal

pub write_file-requires-clause-hold : goal.write_file-requires-clause-hold
write_file-requires-clause-hold c = rw (c.set.ensures.set, c.pdos.ensures.count, c.refusals.ensures) (λ k d below. (c.requires.plan.refused.each k d below).holds)

pub returns : goal.returns
returns c =
    let text = c.in_ok-plan_text.ensures in
    record {
      verdicts = text.0;
      judged = text.1;
      is_plan = refl;
      plan = text.2;
      refusals = rw (c.set.ensures.set, c.pdos.ensures.count, c.refusals.ensures) at c.in_ok-write_file.ensures;
      dcf = c.in_ok-dcf_files.ensures;
    }
