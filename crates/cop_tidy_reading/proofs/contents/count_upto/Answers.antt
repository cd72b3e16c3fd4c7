use Rattle.std.proofs.Common.{rules, nat_le}
use Rattle.std.proofs.lemmas.List.Sorted.{IsPartitionPoint-from_clause, IsPartitionedBy-leb}
use Rattle.cop_tidy_reading.specs.Index.{section_of}
use Rattle.cop_tidy_reading.proofs.contents.count_upto.Goals as goal

pub returns-clause-parted : goal.returns-clause-parted
returns-clause-parted c =
    IsPartitionPoint-from_clause (λ item. nat_le (section_of item) c.args.number) c.args.items.now c.partition_point.result c.partition_point.ensures.partitioned
    (IsPartitionedBy-leb section_of c.args.items.now c.args.number c.requires) (λ a r q k. search rules)
