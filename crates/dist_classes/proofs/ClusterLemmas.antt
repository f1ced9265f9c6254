-- The members of a cluster of a repository are numbers of its packages.
use Rattle.std.proofs.Common.{◌≡◌, ℕ, ◌<◌, List, [], length, get_or, map, Option, Some, None, arith, slice_get}
use Rattle.std.specs.Prelude.{All, IsSomeAnd}
use Rattle.std.proofs.lemmas.List.{length-map}
use Rattle.std.proofs.lemmas.List.Elements.{All-contains, Contains-get_or}
use Rattle.std.proofs.lemmas.Option.{slice_get_within}
use Rattle.dist_cluster.specs.Partition.{IsClusterOf}
use Rattle.dist_cluster.specs.Relation.{Member, AreClustered, AreTogether}
use Rattle.dist_cluster.specs.Top.{ClusterList}
use Rattle.dist_repo.specs.PackageList.{PackageList}
use Rattle.dist_classes.specs.Answers.{AreClustersOf, member_of}

some-of : {X : Type 0} (P : X → Type 0) (o : Option X) → IsSomeAnd o P → (x : X) × (o ≡ Some x)
some-of P None h = absurd h
some-of P (Some x) h = (x, λ i. Some x)

together-within : (members : List Member) (m n : ℕ) → AreTogether members m n → m < length members
together-within members m n h =
    let first = some-of (λ (a : Member). IsSomeAnd (slice_get members n) (λ b. AreClustered a b)) (slice_get members m) h in
    slice_get_within members m first.0 first.1

pub members-within : (r : PackageList) (clusters : ClusterList) (c : ℕ) → AreClustersOf r clusters → c < length clusters.members →
    All (λ n. n < length r.packages) (get_or clusters.members c [])
members-within r clusters c are short k d inside =
    let members = map member_of r.packages in
    let cluster = get_or clusters.members c [] in
    let m = get_or cluster k d in
    let there = Contains-get_or cluster k d inside in
    let whole = All-contains (IsClusterOf members cluster) cluster m (are.partition.whole c [] short) there in
    let below = together-within members m m ((whole m).0 there) in
    omega (arith, length-map r.packages member_of)
