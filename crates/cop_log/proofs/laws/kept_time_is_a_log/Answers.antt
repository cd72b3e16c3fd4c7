use Rattle.cop_log.proofs.Kept.{kept_is_log}
use Rattle.cop_log.proofs.laws.kept_time_is_a_log.Goals as goal

pub returns : goal.returns
returns c tau clock until run log e kept = kept_is_log tau clock until run log e kept
