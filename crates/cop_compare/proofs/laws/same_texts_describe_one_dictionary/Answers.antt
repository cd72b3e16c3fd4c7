use Rattle.cop_compare.proofs.OneDictionary.{one_dictionary}
use Rattle.cop_compare.proofs.laws.same_texts_describe_one_dictionary.Goals as goal

pub returns : goal.returns
returns c = one_dictionary
