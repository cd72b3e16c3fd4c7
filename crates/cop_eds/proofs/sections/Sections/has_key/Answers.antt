use Rattle.std.proofs.Common.{sym}
use Rattle.cop_eds.proofs.IndexLemmas.{earlier_found}
use Rattle.cop_eds.proofs.sections.Sections.has_key.Goals as goal

pub returns-in-Some : goal.returns-in-Some
returns-in-Some c = sym (earlier_found c.args.count _ _ _ _ c.in-Some.ensures.value)
