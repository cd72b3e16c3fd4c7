use Rattle.cop_dict.proofs.AgreeLemmas.{agrees_so}
use Rattle.cop_dict.proofs.laws.agreeing_texts_build_the_same.Goals as goal

pub returns : goal.returns
returns c = agrees_so
