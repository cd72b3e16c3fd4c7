use Rattle.cop_dict.proofs.BuiltLemmas.{built_stays}
use Rattle.cop_dict.proofs.laws.resets_give_what_was_built.Goals as goal

pub returns : goal.returns
returns c text node dict h = built_stays text node dict h
