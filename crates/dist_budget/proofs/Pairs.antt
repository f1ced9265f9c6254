-- The pairs of a cluster and one of its classes: how many there are, and which.
use Rattle.std.proofs.Common.{◌≡◌, ◌≢◌, inl, inr, ℕ, zero, suc, ◌+◌, ◌-◌, ◌<◌, ◌≤◌, List, [], ◌∷◌, ◌++◌, length, get_or, map, refl, ap, sym}
use Rattle.std.proofs.Common.{subst, ◌∙◌, arith, length-append}
use Rattle.std.specs.List.{All, AllPairs, Contains, range_with_len, sum_by}
use Rattle.std.proofs.lemmas.List.{length-map}
use Rattle.std.proofs.lemmas.List.Elements.{All-contains, Contains-append_cases, Contains-append_left, Contains-append_right}
use Rattle.std.proofs.lemmas.List.FromFn.{length-range_with_len}
use Rattle.std.proofs.lemmas.List.Sums.{sum_by-cons}
use Rattle.dist_cert.specs.ClaimRules.{IsPairBelow, IsPairFor}
use Rattle.dist_cert.specs.Subject.{Cluster, Matter}
use Rattle.dist_space.specs.RisingLaws.{below-in, in-below, in-map, map-in, pairs-append, pairs-below, pairs-map, pairs-none}
use Rattle.dist_budget.specs.Budget.{pair_count}
use Rattle.dist_budget.proofs.FewNumbers.{few-of}

abbrev no_cluster : Cluster
no_cluster = record { members = []; classes = 0 }

abbrev joined : ℕ → ℕ → ℕ × ℕ
joined c k = (c, k)

-- the pairs of the first cluster
abbrev pub first_pairs : ℕ → Cluster → List (ℕ × ℕ)
first_pairs first cluster = map (λ k. (first, k + 1)) (range_with_len 0 cluster.classes)

-- the pairs of clusters that are numbered from the first one's number on
abbrev pub pairs_from : ℕ → List Cluster → List (ℕ × ℕ)
pairs_from first [] = []
pairs_from first (cluster ∷ clusters) = first_pairs first cluster ++ pairs_from (first + 1) clusters

abbrev pub all_pairs : Matter → List (ℕ × ℕ)
all_pairs matter = pairs_from 1 matter.clusters

-- ---- how many there are

length-from : (first : ℕ) (clusters : List Cluster) → length (pairs_from first clusters) ≡ sum_by (λ (c : Cluster). c.classes) clusters
length-from first [] = refl
length-from first (cluster ∷ clusters) = omega (
  arith,
  length-append (first_pairs first cluster) (pairs_from (first + 1) clusters),
  length-map (range_with_len 0 cluster.classes) (λ (k : ℕ). joined first (k + 1)),
  length-range_with_len 0 cluster.classes,
  length-from (first + 1) clusters,
  sum_by-cons (λ (c : Cluster). c.classes) cluster clusters,
)

pub length-pairs : (matter : Matter) → length (all_pairs matter) ≡ pair_count matter
length-pairs matter = length-from 1 matter.clusters

-- ---- which they are

pairs-in : (first : ℕ) (clusters : List Cluster) (c k number : ℕ) → c < length clusters → k < (get_or clusters c no_cluster).classes
    → number ≡ first + c → Contains (pairs_from first clusters) (number, k + 1)
pairs-in first [] c k number within short is = absurd (omega (arith, within))
pairs-in first (cluster ∷ clusters) zero k number within short is =
    let same : first ≡ number = omega (arith, is) in
    Contains-append_left (first_pairs first cluster) (pairs_from (first + 1) clusters) (number, k + 1)
    (subst (λ (n : ℕ). Contains (first_pairs first cluster) (n, k + 1)) same
    (map-in (λ (i : ℕ). (first, i + 1)) (range_with_len 0 cluster.classes) k (below-in cluster.classes k short)))
pairs-in first (cluster ∷ clusters) (suc c) k number within short is =
    Contains-append_right (first_pairs first cluster) (pairs_from (first + 1) clusters) (number, k + 1)
    (pairs-in (first + 1) clusters c k number (omega (arith, within)) short (omega (arith, is)))

pub pair-there : (matter : Matter) (p : ℕ) (pair : ℕ × ℕ) → IsPairFor matter p pair → Contains (all_pairs matter) pair
pair-there matter p pair is =
    let same : pair.1 - 1 + 1 ≡ pair.1 = omega (arith, is.2) in
    subst (λ (k : ℕ). Contains (all_pairs matter) (pair.0, k)) same
    (pairs-in 1 matter.clusters (pair.0 - 1) (pair.1 - 1) pair.0 (omega (arith, is.0, is.1)) (omega (arith, is.2, is.3)) (omega (arith, is.0)))

-- the cluster and the class of a pair, from 0
pub record ComesAt (first : ℕ) (clusters : List Cluster) (pair : ℕ × ℕ) : Type 0 where
  pub cluster : ℕ
  pub class : ℕ
  pub within : cluster < length clusters
  pub short : class < (get_or clusters cluster no_cluster).classes
  pub is : (pair.0 ≡ first + cluster) × (pair.1 ≡ class + 1)

pub comes-at : (first : ℕ) (clusters : List Cluster) (pair : ℕ × ℕ) → Contains (pairs_from first clusters) pair → ComesAt first clusters pair
comes-at first [] pair there = absurd (omega (arith, there.1))
comes-at first (cluster ∷ clusters) pair there =
    elim (Contains-append_cases (first_pairs first cluster) (pairs_from (first + 1) clusters) pair there) [
      | inl here ↦
          let from = in-map (λ (k : ℕ). (first, k + 1)) (range_with_len 0 cluster.classes) pair here in
          let left = ap (λ (p : ℕ × ℕ). p.0) from.gives in
          let right = ap (λ (p : ℕ × ℕ). p.1) from.gives in
          record {
            cluster = 0;
            class = from.source;
            within = omega arith;
            short = in-below cluster.classes from.source from.there;
            is = (omega (arith, left), omega (arith, right));
          }
      | inr later ↦
          let rest = comes-at (first + 1) clusters pair later in
          record {
            cluster = suc rest.cluster;
            class = rest.class;
            within = omega (arith, rest.within);
            short = rest.short;
            is = (omega (arith, rest.is.0), rest.is.1);
          }
    ]

apart-from : (first : ℕ) (clusters : List Cluster) → AllPairs (λ p q. p ≢ q) (pairs_from first clusters)
apart-from first [] = pairs-none (λ p q. p ≢ q)
apart-from first (cluster ∷ clusters) =
    pairs-append (λ p q. p ≢ q) (first_pairs first cluster) (pairs_from (first + 1) clusters)
    (pairs-map (λ p q. p ≢ q) (λ (k : ℕ). (first, k + 1)) (range_with_len 0 cluster.classes)
    (pairs-below (λ i j. (first, i + 1) ≢ (first, j + 1)) cluster.classes
    (λ i j less same. let right = ap (λ (p : ℕ × ℕ). p.1) same in omega (arith, less, right))))
    (apart-from (first + 1) clusters)
    (λ p q here there same.
    let from = in-map (λ (k : ℕ). (first, k + 1)) (range_with_len 0 cluster.classes) p here in
    let later = comes-at (first + 1) clusters q there in
    let left = ap (λ (r : ℕ × ℕ). r.0) (from.gives ∙ same) in
    omega (arith, left, later.is.0))

pub pairs-apart : (matter : Matter) → AllPairs (λ p q. p ≢ q) (all_pairs matter)
pairs-apart matter = apart-from 1 matter.clusters

-- ---- lists of them

not-itself : (pair : ℕ × ℕ) → ¬ IsPairBelow pair pair
not-itself pair (inl less) = omega (arith, less)
not-itself pair (inr less) = omega (arith, less.1)

rising-apart : (pairs : List (ℕ × ℕ)) → AllPairs IsPairBelow pairs → AllPairs (λ p q. p ≢ q) pairs
rising-apart pairs rising i j d before inside same =
    not-itself (get_or pairs j d) (subst (λ (p : ℕ × ℕ). IsPairBelow p (get_or pairs j d)) same (rising i j d before inside))

-- two rising lists of pairs, of which none is in both, are together at most as long as there are pairs
pub few-pairs : (matter : Matter) (p : ℕ) (by undecided : List (ℕ × ℕ)) → AllPairs IsPairBelow by → AllPairs IsPairBelow undecided
    → All (λ pair. ¬ Contains undecided pair) by → All (IsPairFor matter p) (by ++ undecided) → length by + length undecided ≤ pair_count matter
few-pairs matter p by undecided by_rise undecided_rise apart are =
    let distinct = pairs-append (λ x y. x ≢ y) by undecided (rising-apart by by_rise) (rising-apart undecided undecided_rise)
    (λ x y here there same.
    All-contains (λ pair. ¬ Contains undecided pair) by x apart here (subst (λ (z : ℕ × ℕ). Contains undecided z) (sym same) there)) in
    let few = few-of (by ++ undecided) (all_pairs matter) distinct (λ k d short. pair-there matter p (get_or (by ++ undecided) k d) (are k d short)) in
    omega (arith, few, length-append by undecided, length-pairs matter)
