use Rattle.cop_tidy.proofs.MeantLemmas.{same_by_name}
use Rattle.cop_tidy.proofs.meaning.are_same_rates.Goals as goal

pub returns : goal.returns
returns c = same_by_name c.args.left.now c.args.right.now c.have_same_by_name.result c.have_same_by_name.ensures
