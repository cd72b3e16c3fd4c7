use Rattle.std.proofs.Common.{nat_lt, ap, ◌∙◌}
use Rattle.cop_tidy_reading.proofs.ListLemmas.{counted}
use Rattle.cop_tidy_reading.proofs.lists.lacks_some.Goals as goal

pub returns : goal.returns
returns c = ap (λ n. nat_lt n c.args.count) (c.count_upto.ensures ∙ counted c.args.count c.args.entries.now)
