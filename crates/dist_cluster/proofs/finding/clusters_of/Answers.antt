use Rattle.std.proofs.Common.{◌<◌, ℕ, List, length, refl, sym, subst, ◌∙◌}
use Rattle.std.specs.Prelude.{All}
use Rattle.dist_cluster.specs.Partition.{IsPartition}
use Rattle.dist_cluster.specs.Relation.{Member}
use Rattle.dist_cluster.proofs.PartitionLemmas.{found-all, found-within}
use Rattle.dist_cluster.proofs.finding.clusters_of.Goals as goal

pub tops_of-requires-clause-within : goal.tops_of-requires-clause-within
tops_of-requires-clause-within c =
    let found = c.in_ok-clusters.field-0 in
    let members = c.entries-entries.result.now in
    let Within : List (List ℕ) → Type 0 = λ list. All (λ cluster. All (λ m. m < length members) cluster) list in
    subst Within (sym c.deref-2.ensures.value)
    (found-within members (length members) found.numbers.entries found.clusters.items found.cluster_of.items refl c.in_ok-clusters.ensures)

pub returns-clause-partition : goal.returns-clause-partition
returns-clause-partition c =
    let found = c.in_ok-clusters.field-0 in
    let members = c.entries-entries.result.now in
    let Of : List (List ℕ) → Type 0 = λ list. IsPartition members list in
    let Keys : List Member → Type 0 = λ keys. IsPartition keys c.in_ok-members.members in
    subst Keys c.entries-entries.ensures (subst Of (sym (c.in_ok-members.ensures ∙ c.deref.ensures.value))
    (found-all members (length members) found.numbers.entries found.clusters.items found.cluster_of.items refl c.in_ok-clusters.ensures))
