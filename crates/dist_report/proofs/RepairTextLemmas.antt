-- The lines of a repair's text.
use Rattle.std.proofs.Common.{◌≡◌, ℕ, ◌+◌, ◌<◌, ◌≤◌, Bool, true, false, List, [], ◌++◌, length, take, Option, None, Some, slice_get, sym}
use Rattle.std.proofs.Common.{ap, subst, ◌∙◌, arith, append-nil, zero-add}
use Rattle.std.specs.Prelude.{find, not}
use Rattle.std.specs.List.{flat_map, range_with_len}
use Rattle.std.specs.Option.{option_map_or}
use Rattle.std.proofs.lemmas.List.Folds.{find_at}
use Rattle.std.proofs.lemmas.List.FromFn.{get_or-range_with_len, length-range_with_len}
use Rattle.std.proofs.lemmas.List.Sums.{prefix_len_is}
use Rattle.std.proofs.lemmas.Option.{slice_get-get_or, slice_get_past}
use Rattle.dist_cluster.specs.Partition.{least}
use Rattle.dist_cluster.specs.Top.{ClusterList}
use Rattle.dist_space.specs.Space.{SpaceView}
use Rattle.dist_report.specs.PackageText.{cluster_text, label}
use Rattle.dist_report.proofs.LineLemmas.{lines-all, lines-more}

-- no cluster has the number
pub no-cluster : (s : SpaceView) (clusters : ClusterList) → clusters ≡ s.clusters → (cluster : ℕ) (bs : List ℕ) → length clusters.members ≤ cluster
    → bs ≡ bs ++ cluster_text s cluster
no-cluster s clusters same cluster bs past =
    let none : slice_get s.clusters.members cluster ≡ None =
    slice_get_past s.clusters.members cluster (subst (λ (c : ClusterList). length c.members ≤ cluster) same past) in
    let told : List ℕ → List ℕ = λ list. option_map_or label (slice_get s.repository.packages (least list)) [] in
    sym (ap (λ (o : Option (List ℕ)). bs ++ option_map_or told o []) none ∙ append-nil bs)

-- the cluster of these members
pub cluster-at : (s : SpaceView) (clusters : ClusterList) → clusters ≡ s.clusters → (cluster : ℕ) (members : List ℕ)
    → slice_get clusters.members cluster ≡ Some members
    → option_map_or label (slice_get s.repository.packages (least members)) [] ≡ cluster_text s cluster
cluster-at s clusters same cluster members is =
    let own : slice_get s.clusters.members cluster ≡ Some members = subst (λ (c : ClusterList). slice_get c.members cluster ≡ Some members) same is in
    let told : List ℕ → List ℕ = λ list. option_map_or label (slice_get s.repository.packages (least list)) [] in
    sym (ap (λ (o : Option (List ℕ)). option_map_or told o []) own)

-- ---- the numbers of a range

range-at : (n k : ℕ) → k < n → slice_get (range_with_len 0 n) k ≡ Some k
range-at n k short =
    let size = length-range_with_len 0 n in
    slice_get-get_or (range_with_len 0 n) k 0 (omega (arith, size, short))
    ∙ ap (λ (x : ℕ). Some x) (get_or-range_with_len 0 n k 0 short ∙ zero-add k)

-- the first that passes
pub find-first : (test : ℕ → Bool) (n k : ℕ) → k < n → ((i : ℕ) → i < k → test i ≡ false) → test k ≡ true → find test (range_with_len 0 n) ≡ Some k
find-first test n k short before here =
    let size = length-range_with_len 0 n in
    find_at test (range_with_len 0 n)
    ∙ ap (λ (place : ℕ). slice_get (range_with_len 0 n) place) (prefix_len_is (λ (x : ℕ). not (test x)) (range_with_len 0 n) k 0 (omega (arith, size, short))
    (λ i less. ap (λ (x : ℕ). not (test x)) (get_or-range_with_len 0 n i 0 (omega (arith, less, short)) ∙ zero-add i) ∙ ap not (before i less))
    (λ inside. ap (λ (x : ℕ). not (test x)) (get_or-range_with_len 0 n k 0 short ∙ zero-add k) ∙ ap not here))
    ∙ range-at n k short

pub find-none : (test : ℕ → Bool) (n : ℕ) → ((i : ℕ) → i < n → test i ≡ false) → find test (range_with_len 0 n) ≡ None
find-none test n none =
    let size = length-range_with_len 0 n in
    find_at test (range_with_len 0 n)
    ∙ ap (λ (place : ℕ). slice_get (range_with_len 0 n) place) (prefix_len_is (λ (x : ℕ). not (test x)) (range_with_len 0 n) n 0 (omega (arith, size))
    (λ i less. ap (λ (x : ℕ). not (test x)) (get_or-range_with_len 0 n i 0 less ∙ zero-add i) ∙ ap not (none i less))
    (λ inside. absurd (omega (arith, size, inside))))
    ∙ slice_get_past (range_with_len 0 n) n (omega (arith, size))

-- the lines of one number more, and of all
pub range-lines : (f : ℕ → List ℕ) (bs : List ℕ) (n k : ℕ) (old new : List ℕ) → k < n → old ≡ bs ++ flat_map f (take k (range_with_len 0 n))
    → new ≡ old ++ f k → new ≡ bs ++ flat_map f (take (k + 1) (range_with_len 0 n))
range-lines f bs n k old new short so_far more = lines-more f (range_with_len 0 n) k k bs old new (range-at n k short) so_far more

pub range-all : (f : ℕ → List ℕ) (bs : List ℕ) (n k : ℕ) (new : List ℕ) → n ≤ k → new ≡ bs ++ flat_map f (take k (range_with_len 0 n))
    → new ≡ bs ++ flat_map f (range_with_len 0 n)
range-all f bs n k new past so_far =
    let size = length-range_with_len 0 n in
    lines-all f (range_with_len 0 n) k bs new (omega (arith, size, past)) so_far
