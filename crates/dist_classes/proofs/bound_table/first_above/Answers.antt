use Rattle.std.proofs.Common.{rules}
use Rattle.std.proofs.lemmas.List.Sorted.{IsPartitionPoint-from_clause}
use Rattle.dist_classes.proofs.BoundLemmas.{is_up_to, parted-above, start-above}
use Rattle.dist_classes.proofs.bound_table.first_above.Goals as goal

pub returns : goal.returns
returns c =
    let table = c.args.bounds.now in
    let name = c.args.name.now in
    let low = c.args.version.now in
    start-above table c.requires name low c.partition_point.result
    (IsPartitionPoint-from_clause (is_up_to name low) table c.partition_point.result c.partition_point.ensures.partitioned
    (parted-above table c.requires name low) (λ a r f' k. search rules))
