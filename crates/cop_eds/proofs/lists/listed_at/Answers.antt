use Rattle.std.proofs.Common.{ap, ◌∙◌}
use Rattle.cop_eds.specs.Plain.{is_plain}
use Rattle.cop_eds.proofs.PlainLemmas.{decimal_plain}
use Rattle.cop_eds.proofs.lists.listed_at.Goals as goal

pub entry_near-requires : goal.entry_near-requires
entry_near-requires c = ap is_plain (c.as_bytes-key.ensures.value ∙ c.format.ensures.text) ∙ decimal_plain c.args.place c.ranges.place.fits
