use Rattle.std.proofs.Common.{arith}
use Rattle.std.proofs.lemmas.List.{get_or-take, length-take-le}
use Rattle.cop_rta.specs.declared.verdicts.Verdict.TheVariants.{Long}
use Rattle.cop_engine.proofs.tests_of_streams.judge_first.Goals as goal

pub returns : goal.returns
returns c =
    rw c.truncate.ensures.items (
      length-take-le c.args.count c.in_ok-verdicts.verdicts.items (omega (arith, c.requires, c.in_ok-verdicts.ensures.count)),
      λ i below. rw (get_or-take c.args.count c.in_ok-verdicts.verdicts.items i Long below) (c.in_ok-verdicts.ensures.judged i (omega (arith, below, c.requires))),
    )
