use Rattle.std.specs.Ordering.{nat_cmp}
use Rattle.std.specs.BTreeMap.{IsFromIterResult}
use Rattle.std.proofs.lemmas.Iterator.{YieldsList-from_slice}
use Rattle.std.proofs.lemmas.Iterator.Adapters.{fact_from_collect}
use Rattle.std.proofs.lemmas.Iterator.Consumers.{YieldsList-from_copied}
use Rattle.cop_eds.proofs.found.spans_of.Goals as goal

pub returns : goal.returns
returns c = fact_from_collect (IsFromIterResult nat_cmp) c.collect.result c.collect.ensures.ran (YieldsList-from_copied (YieldsList-from_slice c.args.parts.now cc))
