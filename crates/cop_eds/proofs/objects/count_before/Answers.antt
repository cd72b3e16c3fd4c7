use Rattle.std.proofs.Common.{rules}
use Rattle.std.proofs.lemmas.List.Sorted.{IsPartitionPoint-from_clause}
use Rattle.cop_eds.specs.Objects.{is_before}
use Rattle.cop_eds.proofs.SearchLemmas.{parted}
use Rattle.cop_eds.proofs.objects.count_before.Goals as goal

pub returns : goal.returns
returns c = λ sorted. IsPartitionPoint-from_clause (is_before c.args.index c.args.sub) c.args.objects.now c.partition_point.result
    c.partition_point.ensures.partitioned (parted c.args.objects.now c.args.index c.args.sub sorted) (λ a r q k. search rules)
