-- All members have a partition: it is found member by member, as the code finds it, and no memory is asked for.
use Rattle.std.proofs.Common.{◌≡◌, ℕ, zero, suc, ◌+◌, ◌≤◌, List, [], ◌∷◌, ◌++◌, length, get_or, set, cond, Some, None, Option, Ordering, Less, Equal}
use Rattle.std.proofs.Common.{Greater, is_eq, refl, ap, subst, ◌∙◌, arith, slice_get}
use Rattle.std.specs.BTreeMap.{is_at}
use Rattle.std.specs.Ordering.{ordering_reverse}
use Rattle.dist_cluster.specs.Found.{AreFound, number_at}
use Rattle.dist_cluster.specs.Partition.{IsPartition}
use Rattle.dist_cluster.specs.Relation.{Member}
use Rattle.dist_cluster.specs.TotalLaws.{member_cmp, member_total}
use Rattle.dist_cluster.proofs.FoundLemmas.{found-begun, found-joined, found-none}
use Rattle.dist_cluster.proofs.PartitionLemmas.{found-all}
use Rattle.dist_cluster.proofs.Places.{standing}

-- what is found of so many first members
record Finds (members : List Member) (n : ℕ) : Type 0 where
  numbers : List (Member × ℕ)
  clusters : List (List ℕ)
  cluster_of : List ℕ
  found : AreFound members n numbers clusters cluster_of

tied-reversed : (o : Ordering) → is_eq (ordering_reverse o) ≡ is_eq o
tied-reversed Less = refl
tied-reversed Equal = refl
tied-reversed Greater = refl

-- a number that is put in front of a map
number-front : (numbers : List (Member × ℕ)) (member : Member) (n : ℕ) (q : Member) →
    number_at ((member, n) ∷ numbers) q ≡ cond (is_at (member_cmp member) q) (Some n) (number_at numbers q)
number-front numbers member n q =
    ap (λ b. cond b (Some n) (number_at numbers q)) (ap is_eq (member_total.antisymm q member) ∙ tied-reversed (member_cmp member q))

finds-next : (members : List Member) (n : ℕ) (member : Member) (before : Finds members n) → slice_get members n ≡ Some member →
    (number : Option ℕ) → number_at before.numbers member ≡ number → Finds members (n + 1)
finds-next members n member before at (Some c) is = record {
  numbers = before.numbers;
  clusters = set before.clusters c (get_or before.clusters c [] ++ n ∷ []);
  cluster_of = before.cluster_of ++ c ∷ [];
  found = found-joined members n c member before.numbers before.clusters before.cluster_of before.found at is;
}
finds-next members n member before at None is = record {
  numbers = (member, length before.clusters) ∷ before.numbers;
  clusters = before.clusters ++ (n ∷ []) ∷ [];
  cluster_of = before.cluster_of ++ length before.clusters ∷ [];
  found = found-begun members n member before.numbers ((member, length before.clusters) ∷ before.numbers) before.clusters before.cluster_of before.found at is
      (number-front before.numbers member (length before.clusters));
}

finds : (members : List Member) (n : ℕ) → n ≤ length members → Finds members n
finds members zero short = record { numbers = []; clusters = []; cluster_of = []; found = found-none members }
finds members (suc n) short =
    let before = finds members n (omega arith) in
    let one = standing members n (omega arith) in
    let next : n + 1 ≡ suc n = omega arith in
    subst (Finds members) next (finds-next members n one.0 before one.1 (number_at before.numbers one.0) refl)

pub some-partition : (members : List Member) → (clusters : List (List ℕ)) × IsPartition members clusters
some-partition members =
    let all = finds members (length members) (omega arith) in
    (all.clusters, found-all members (length members) all.numbers all.clusters all.cluster_of refl all.found)
