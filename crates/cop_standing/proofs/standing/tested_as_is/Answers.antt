use Rattle.std.proofs.Common.{length}
use Rattle.cop_standing.proofs.RateAnswers.{of_same}
use Rattle.cop_standing.proofs.standing.tested_as_is.Goals as goal

pub returns : goal.returns
returns c = record {
  stands = c.in_ok-streams.ensures;
  answers = of_same c.in_ok-streams.streams (length c.args.network.now.rows) c.rates.result c.args.network.now.equipment.rates c.in_ok-answers.answers.items c.rates.ensures.rates
      (rw c.pdos.ensures.count at c.in_ok-answers.ensures);
}
