use Rattle.std.proofs.Common.{rules}
use Rattle.std.proofs.lemmas.List.Sorted.{IsPartitionPoint-from_clause}
use Rattle.dist_classes.proofs.BoundLemmas.{is_before, parted-name, start-name}
use Rattle.dist_classes.proofs.bound_table.first_of.Goals as goal

pub returns : goal.returns
returns c =
    let table = c.args.bounds.now in
    let name = c.args.name.now in
    start-name table c.requires name c.partition_point.result
    (IsPartitionPoint-from_clause (is_before name) table c.partition_point.result c.partition_point.ensures.partitioned (parted-name table c.requires name)
    (λ a r f' k. search rules))
