use Rattle.cop_dict.proofs.FittingLemmas.{built_fits, writes_fit, changes_fit, resets_fit}
use Rattle.cop_dict.proofs.laws.values_fit_their_types.Goals as goal

pub returns-clause-built : goal.returns-clause-built
returns-clause-built c = built_fits

pub returns-clause-writes : goal.returns-clause-writes
returns-clause-writes c = writes_fit

pub returns-clause-changes : goal.returns-clause-changes
returns-clause-changes c = changes_fit

pub returns-clause-resets : goal.returns-clause-resets
returns-clause-resets c = resets_fit
