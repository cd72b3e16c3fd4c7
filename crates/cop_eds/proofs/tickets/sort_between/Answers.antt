use Rattle.std.proofs.Common.{◌-◌}
use Rattle.std.proofs.lemmas.List.Sorted.{IsPermutation-put_mid}
use Rattle.cop_eds.proofs.tickets.sort_between.Goals as goal

pub returns : goal.returns
returns c = IsPermutation-put_mid c.args.from (c.args.to - c.args.from) c.args.tickets.now c.sort_unstable_by_key.new.self c.sort_unstable_by_key.ensures.permutation
