use Rattle.std.proofs.Common.{◌≡◌, true, false, rules}
use Rattle.std.specs.List.Sorted.{IsPartitionPoint}
use Rattle.std.proofs.lemmas.List.Sorted.{IsPartitionPoint-from_clause}
use Rattle.dist_space.proofs.EntryLemmas.{between-iff, is_before, is_up_to, parted-before, parted-up_to, points-rise}
use Rattle.dist_space.proofs.entry_order.span_of.Goals as goal

first-point : (c : goal.After-partition_point-end) → IsPartitionPoint (λ y. is_before c.args.provides.now c.args.name.now y ≡ true)
    (λ y. is_before c.args.provides.now c.args.name.now y ≡ false) c.args.order.now c.partition_point-start.result
first-point c =
    IsPartitionPoint-from_clause (is_before c.args.provides.now c.args.name.now) c.args.order.now c.partition_point-start.result
    c.partition_point-start.ensures.partitioned (parted-before c.args.provides.now c.args.order.now c.args.name.now c.requires) (λ a r f' k. search rules)

last-point : (c : goal.After-partition_point-end) → IsPartitionPoint (λ y. is_up_to c.args.provides.now c.args.name.now y ≡ true)
    (λ y. is_up_to c.args.provides.now c.args.name.now y ≡ false) c.args.order.now c.partition_point-end.result
last-point c =
    IsPartitionPoint-from_clause (is_up_to c.args.provides.now c.args.name.now) c.args.order.now c.partition_point-end.result
    c.partition_point-end.ensures.partitioned (parted-up_to c.args.provides.now c.args.order.now c.args.name.now c.requires) (λ a r f' k. search rules)

pub returns-clause-rising : goal.returns-clause-rising
returns-clause-rising c = points-rise c.args.provides.now c.args.order.now c.args.name.now c.requires c.partition_point-start.result
    c.partition_point-end.result (first-point c) (last-point c) c.partition_point-start.ensures.bound

pub returns-clause-named : goal.returns-clause-named
returns-clause-named c =
    between-iff c.args.provides.now c.args.order.now c.args.name.now c.requires c.partition_point-start.result c.partition_point-end.result
    (first-point c) (last-point c) c.partition_point-start.ensures.bound c.partition_point-end.ensures.bound
