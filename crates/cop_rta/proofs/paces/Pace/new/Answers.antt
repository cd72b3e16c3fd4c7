use Rattle.std.proofs.Common.{refl, rules}
use Rattle.cop_rta.proofs.PaceLemmas.{pace_made}
use Rattle.cop_rta.proofs.paces.Pace.new.Goals as goal

pub returns : goal.returns
returns c = pace_made c.args.stream.now _ (search rules) refl refl refl
