use Rattle.cop_sim.proofs.Unique.{one-play}
use Rattle.cop_sim.proofs.laws.play_is_one.Goals as goal

pub returns : goal.returns
returns c rate actors until steps others distinct = one-play rate actors distinct until steps others
