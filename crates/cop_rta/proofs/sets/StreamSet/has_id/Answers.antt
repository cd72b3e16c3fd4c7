use Rattle.std.proofs.Common.{◌∙◌, ap, is_some}
use Rattle.cop_rta.proofs.PlaceLemmas.{place_is_some}
use Rattle.cop_rta.proofs.sets.StreamSet.has_id.Goals as goal

pub returns : goal.returns
returns c = c.is_some.ensures ∙ ap is_some c.place_of.ensures.place ∙ place_is_some c.args.self.now c.args.id
