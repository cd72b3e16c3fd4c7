use Rattle.cop_engine.proofs.plans.outcome_files.Goals as goal

pub refused_files-requires-clause-hold : goal.refused_files-requires-clause-hold
refused_files-requires-clause-hold c =
    let all = rw c.in-Refused.is at c.requires.outcome in
    rw c.as_slice.ensures (λ k d below. (all.refused.each k d below).holds)

pub returns-in-Refused : goal.returns-in-Refused
returns-in-Refused c =
    let files = c.refused_files.ensures c.args.eds_files.now in
    rw c.in-Refused.is (rw c.as_slice.ensures at files)
