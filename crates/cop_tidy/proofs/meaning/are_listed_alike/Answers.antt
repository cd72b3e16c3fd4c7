use Rattle.cop_tidy.proofs.MeantLemmas.{listed_alike}
use Rattle.cop_tidy.proofs.meaning.are_listed_alike.Goals as goal

pub returns : goal.returns
returns c = listed_alike c.args.eds.now c.args.named.now c.args.indexes.now c.have_each.result c.requires c.have_each.ensures
