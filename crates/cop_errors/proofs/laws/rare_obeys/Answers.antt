use Rattle.cop_errors.proofs.Rare.{rare_obeys}
use Rattle.cop_errors.proofs.laws.rare_obeys.Goals as goal

pub returns : goal.returns
returns c = rare_obeys
