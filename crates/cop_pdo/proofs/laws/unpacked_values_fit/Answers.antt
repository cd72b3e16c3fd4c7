use Rattle.cop_pdo.proofs.FittingLemmas.{mapped_fit, unpacking_fits}
use Rattle.cop_pdo.proofs.laws.unpacked_values_fit.Goals as goal

pub returns-clause-mapped : goal.returns-clause-mapped
returns-clause-mapped c = mapped_fit

pub returns-clause-unpacking : goal.returns-clause-unpacking
returns-clause-unpacking c = λ dict layout bits there all. unpacking_fits layout.direction layout.entries dict bits there all
