use Rattle.std.proofs.Common.{sym}
use Rattle.cop_dict.proofs.SearchLemmas.{no_index}
use Rattle.cop_dict.proofs.search.has_index.Goals as goal

pub returns-in-None : goal.returns-in-None
returns-in-None c =
    sym (no_index c.args.objects.now c.args.index c.count_before-place.result c.requires c.count_before-place.ensures.parted c.in-None.ensures.lookup.3)
