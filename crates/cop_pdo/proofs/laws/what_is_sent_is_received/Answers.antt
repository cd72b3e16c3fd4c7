use Rattle.cop_pdo.proofs.SentLemmas.{sent_is_had}
use Rattle.cop_pdo.proofs.laws.what_is_sent_is_received.Goals as goal

pub returns : goal.returns
returns c = sent_is_had
