use Rattle.std.proofs.lemmas.List.Sorted.{IsPartitionPoint-from_clause}
use Rattle.std.proofs.Common.{rules}
use Rattle.cop_eds.specs.Index.{sort_key, is_below}
use Rattle.cop_eds.proofs.IndexLemmas.{partitioned}
use Rattle.cop_eds.proofs.index.lower_bound.Goals as goal

pub returns : goal.returns
returns c = λ sorted. IsPartitionPoint-from_clause (is_below (sort_key c.args.key.now)) c.args.entries.now c.partition_point.result
    c.partition_point.ensures.partitioned (partitioned (sort_key c.args.key.now) c.args.entries.now sorted) (λ a r q k. search rules)
