-- Clustered members are tied in a total order, by which they are found.
use Rattle.std.specs.Cmp.{IsTotalOrder}
use Rattle.std.specs.Cmp.Lexicographic.{slice_cmp}
use Rattle.std.specs.Ordering.{nat_cmp, ordering_then}
use Rattle.std.specs.declared.cmp.Ordering.{Ordering}
use Rattle.std.proofs.lemmas.Cmp.{nat_list_cmp_total, on_total, then_total}
use Rattle.dist_version.specs.Between.{without_rebuild_text}
use Rattle.dist_version.specs.Order.{version_cmp}
use Rattle.dist_version.specs.OrderLaws.{version_total}
use Rattle.dist_cluster.specs.Relation.{Member}

-- by the bytes of the source's name, the version of the source, and the own version without rebuild suffix
abbrev pub member_cmp : Member → Member → Ordering
member_cmp a b =
    ordering_then (slice_cmp nat_cmp a.source b.source)
    (ordering_then (version_cmp a.source_version b.source_version)
    (version_cmp (without_rebuild_text a.version) (without_rebuild_text b.version)))

pub member_total : IsTotalOrder member_cmp
member_total =
    then_total (on_total (λ (m : Member). m.source) nat_list_cmp_total)
    (then_total (on_total (λ (m : Member). m.source_version) version_total)
    (on_total (λ (m : Member). without_rebuild_text m.version) version_total))
