use Rattle.std.proofs.Common.{[], refl}
use Rattle.cop_engine.proofs.plans.refused_files.Goals as goal

pub write_file-requires-clause-hold : goal.write_file-requires-clause-hold
write_file-requires-clause-hold c = rw (c.set.ensures.set, c.pdos.ensures.count) c.requires.hold

pub returns : goal.returns
returns c eds =
    record {
      verdicts = [];
      judged = tt;
      is_plan = refl;
      plan = c.in_ok-refused_text.ensures;
      refusals = rw (c.set.ensures.set, c.pdos.ensures.count) at c.in_ok-write_file.ensures;
      dcf = c.new.ensures;
    }
