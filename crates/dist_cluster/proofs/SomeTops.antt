-- Each cluster of a partition has a top: the members are gone through, and no memory is asked for.
use Rattle.std.proofs.Common.{◌≡◌, ℕ, zero, suc, ◌+◌, ◌-◌, ◌<◌, ◌≤◌, List, [], ◌++◌, ◌∷◌, length, get_or, take, Some, Ordering, Less, Equal, Greater, refl}
use Rattle.std.proofs.Common.{subst, arith, slice_get}
use Rattle.std.specs.Prelude.{Contains, IsSomeAnd}
use Rattle.std.proofs.lemmas.List.{get_or_default, take_all}
use Rattle.std.proofs.lemmas.List.Elements.{All-get_or}
use Rattle.dist_base.specs.ListLaws.{contains-at}
use Rattle.dist_cluster.specs.Found.{top_cmp}
use Rattle.dist_cluster.specs.Partition.{IsClusterOf, IsPartition}
use Rattle.dist_cluster.specs.Relation.{Member, AreClustered}
use Rattle.dist_cluster.specs.Top.{AreTops, IsTop}
use Rattle.dist_cluster.proofs.Places.{some-of, standing}
use Rattle.dist_cluster.proofs.TopLemmas.{AreTopsSoFar, IsHighest, highest-first, highest-next, highest-still, top-highest, tops-all, tops-more, tops-none}

module _ (members : List Member) (cluster : List ℕ) (whole : (n : ℕ) → Contains cluster n → (member : Member) × (slice_get members n ≡ Some member)) where
  abbrev Highest : ℕ → Type 0
  Highest count = (top : List ℕ) × IsHighest members (take count cluster) top

  next : (place n : ℕ) (member : Member) (top : List ℕ) → slice_get cluster place ≡ Some n → slice_get members n ≡ Some member
      → IsHighest members (take place cluster) top
      → (o : Ordering) → top_cmp top member.version ≡ o → Highest (place + 1)
  next place n member top here at highest Less is = (member.version, highest-next members cluster place n member top here at highest is)
  next place n member top here at highest Equal is = (top, highest-still members cluster place n member top here at highest (λ less. cc))
  next place n member top here at highest Greater is = (top, highest-still members cluster place n member top here at highest (λ less. cc))

  highest-of : (place : ℕ) → place < length cluster → Highest (place + 1)
  highest-of zero short =
      let one = standing cluster 0 short in
      let member = whole one.0 (contains-at cluster 0 one.0 one.1) in
      (member.0.version, highest-first members cluster one.0 member.0 one.1 member.1)
  highest-of (suc place) short =
      let before = highest-of place (omega arith) in
      let at : place + 1 ≡ suc place = omega arith in
      let one = standing cluster (suc place) short in
      let member = whole one.0 (contains-at cluster (suc place) one.0 one.1) in
      let highest = subst (λ k. IsHighest members (take k cluster) before.0) at before.1 in
      next (suc place) one.0 member.0 before.0 one.1 member.1 highest (top_cmp before.0 member.0.version) refl

  pub some-top : 0 < length cluster → (top : List ℕ) × IsTop members cluster top
  some-top short =
      let place : ℕ = length cluster - 1 in
      let before = highest-of place (omega arith) in
      (before.0, top-highest members cluster before.0 (subst (λ list. IsHighest members list before.0) (take_all (place + 1) cluster (omega arith)) before.1))

member-at : (members : List Member) (clusters : List (List ℕ)) → IsPartition members clusters → (c : ℕ) → c < length clusters → (n : ℕ)
    → Contains (get_or clusters c []) n
    → (member : Member) × (slice_get members n ≡ Some member)
member-at members clusters partition c short n there =
    let whole = All-get_or (λ cluster. (k : ℕ) (d : ℕ) → k < length cluster → IsClusterOf members cluster (get_or cluster k d)) clusters c [] short
    partition.whole in
    let of : IsClusterOf members (get_or clusters c []) n = subst (IsClusterOf members (get_or clusters c [])) there.2 (whole there.0 n there.1) in
    let here = some-of (λ (a : Member). IsSomeAnd (slice_get members n) (λ b. AreClustered a b)) (slice_get members n) ((of n).0 there) in
    (here.0, here.1)

tops-of : (members : List Member) (clusters : List (List ℕ)) → IsPartition members clusters → (count : ℕ) → count ≤ length clusters → (tops : List (List ℕ))
    × AreTopsSoFar members clusters tops count
tops-of members clusters partition zero within = ([], tops-none members clusters)
tops-of members clusters partition (suc count) within =
    let before = tops-of members clusters partition count (omega arith) in
    let cluster = get_or clusters count [] in
    let one = some-top members cluster (member-at members clusters partition count (omega arith))
    (All-get_or (λ list. 0 < length list) clusters count [] (omega arith) partition.some) in
    let is : cluster ≡ get_or clusters count cluster = get_or_default clusters count [] cluster (omega arith) in
    let at : count + 1 ≡ suc count = omega arith in (
      before.0 ++ one.0 ∷ [],
      subst (AreTopsSoFar members clusters (before.0 ++ one.0 ∷ [])) at
          (tops-more members clusters before.0 count cluster one.0 (omega arith) is one.1 before.1),
    )

pub some-tops : (members : List Member) (clusters : List (List ℕ)) → IsPartition members clusters → (tops : List (List ℕ))
    × AreTops members (record { members = clusters; tops = tops })
some-tops members clusters partition =
    let all = tops-of members clusters partition (length clusters) (omega arith) in
    (all.0, tops-all members clusters all.0 (length clusters) refl all.1)
