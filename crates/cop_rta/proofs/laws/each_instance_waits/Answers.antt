use Rattle.cop_rta.proofs.QueueLemmas.{wait_exists_at}
use Rattle.cop_rta.proofs.laws.each_instance_waits.Goals as goal

pub returns : goal.returns
returns c = wait_exists_at
