use Rattle.std.proofs.Common.{rules}
use Rattle.std.proofs.lemmas.List.Sorted.{IsPartitionPoint-from_clause}
use Rattle.cop_dict.specs.Find.{is_before}
use Rattle.cop_dict.proofs.SearchLemmas.{parted}
use Rattle.cop_dict.proofs.search.count_before.Goals as goal

pub returns-clause-parted : goal.returns-clause-parted
returns-clause-parted c =
    IsPartitionPoint-from_clause (is_before c.args.index c.args.sub) c.args.objects.now c.partition_point.result c.partition_point.ensures.partitioned
    (parted c.args.objects.now c.args.index c.args.sub c.requires) (λ a r q k. search rules)
