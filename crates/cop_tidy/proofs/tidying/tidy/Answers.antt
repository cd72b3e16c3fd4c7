use Rattle.cop_tidy.proofs.KeptLemmas.{all_hazards, all_stay}
use Rattle.cop_tidy.proofs.tidying.tidy.Goals as goal

pub returns-in-Some-clause-hazard : goal.returns-in-Some-clause-hazard
returns-in-Some-clause-hazard c = all_hazards c.args.words.now c.args.text.now c.mended.result c.mended.ensures.found

pub returns-in-Some-clause-stays : goal.returns-in-Some-clause-stays
returns-in-Some-clause-stays c = all_stay c.args.words.now c.args.text.now c.mended.result c.mended.ensures.found c.mended.ensures.settled
