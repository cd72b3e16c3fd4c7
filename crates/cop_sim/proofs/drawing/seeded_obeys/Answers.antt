use Rattle.cop_sim.proofs.Obeying.{never-disobeys}
use Rattle.cop_sim.proofs.drawing.seeded_obeys.Goals as goal

pub returns : goal.returns
returns c = never-disobeys
