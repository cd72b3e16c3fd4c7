use Rattle.cop_tidy.proofs.StandingLemmas.{settled_in}
use Rattle.cop_tidy.proofs.judging.settled.Goals as goal

pub returns-in_ok-settled-in-Ok-clause-settled : goal.returns-in_ok-settled-in-Ok-clause-settled
returns-in_ok-settled-in-Ok-clause-settled c =
    settled_in c.args.words.now c.args.text.now _ c.args.device.now c.in_ok-settled-in-Ok.settled c.in-Ok.ensures c.in_ok-settled-in-Ok.ensures.settled
