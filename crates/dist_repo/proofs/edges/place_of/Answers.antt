use Rattle.std.proofs.Common.{rules}
use Rattle.std.proofs.lemmas.List.Sorted.{IsPartitionPoint-from_clause}
use Rattle.dist_repo.specs.EdgesPrivate.{is_before, standing}
use Rattle.dist_repo.proofs.EdgeLemmas.{parted}
use Rattle.dist_repo.proofs.edges.place_of.Goals as goal

pub returns-clause-splits : goal.returns-clause-splits
returns-clause-splits c =
    IsPartitionPoint-from_clause (λ offer. is_before c.args.edge (standing c.args.packages.now c.args.version.now offer)) c.args.offers.now
    c.partition_point.result c.partition_point.ensures.partitioned
    (parted c.args.packages.now c.args.offers.now c.args.edge c.args.version.now c.requires) (λ a r f' k. search rules)
