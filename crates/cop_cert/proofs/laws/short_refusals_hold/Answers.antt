use Rattle.cop_cert.proofs.ShortLemmas.{short_holds}
use Rattle.cop_cert.proofs.laws.short_refusals_hold.Goals as goal

pub returns : goal.returns
returns c = short_holds
