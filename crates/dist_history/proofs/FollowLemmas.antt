-- The lines of packages that clusters break.
use Rattle.std.proofs.Common.{◌≡◌, ℕ, ◌+◌, ◌≤◌, List, [], ◌++◌, append-nil, length, take, Option, None, Some, sym, ap, ◌∙◌, slice_get, subst}
use Rattle.std.specs.Option.{option_map_or}
use Rattle.std.proofs.lemmas.List.{flat_map_more, take_all}
use Rattle.std.proofs.lemmas.Option.{slice_get_past}
use Rattle.dist_cluster.specs.Partition.{least}
use Rattle.dist_cluster.specs.Top.{ClusterList}
use Rattle.dist_repo.specs.declared.package.Package.{Package}
use Rattle.dist_space.specs.Space.{SpaceView}
use Rattle.dist_journal.specs.declared.broken_list.Broken.{Broken}
use Rattle.dist_report.specs.PackageText.{label}
use Rattle.dist_history.specs.FollowText.{broken_text, broken_texts, held_version, version_of_name}
use Rattle.dist_history.proofs.TextLemmas.{take-next}

-- no package has the number
pub no-package : (packages : List Package) (number : ℕ) (bs : List ℕ) → length packages ≤ number
    → bs ≡ bs ++ option_map_or label (slice_get packages number) []
no-package packages number bs past =
    sym (ap (λ (o : Option Package). bs ++ option_map_or label o []) (slice_get_past packages number past) ∙ append-nil bs)

-- no cluster has the number
pub no-version : (s : SpaceView) (archive : List Package) (clusters : ClusterList) → clusters ≡ s.clusters → (cluster : ℕ) (bs : List ℕ)
    → length clusters.members ≤ cluster → bs ≡ bs ++ held_version s archive cluster
no-version s archive clusters same cluster bs past =
    let none : slice_get s.clusters.members cluster ≡ None =
    slice_get_past s.clusters.members cluster (subst (λ (c : ClusterList). length c.members ≤ cluster) same past) in
    let told : List ℕ → List ℕ = λ members. option_map_or (λ (q : Package). version_of_name archive q.name)
    (slice_get s.repository.packages (least members)) [] in
    sym (ap (λ (o : Option (List ℕ)). bs ++ option_map_or told o []) none ∙ append-nil bs)

pub lines-more : (s : SpaceView) (archive : List Package) (list : List Broken) (k : ℕ) (broken : Broken) (bs old new : List ℕ)
    → slice_get list k ≡ Some broken → old ≡ bs ++ broken_texts s archive (take k list) → new ≡ old ++ broken_text s archive broken
    → new ≡ bs ++ broken_texts s archive (take (k + 1) list)
lines-more s archive list k broken bs old new is so_far more =
    more ∙ ap (λ (t : List ℕ). t ++ broken_text s archive broken) so_far ∙ flat_map_more (broken_text s archive) bs (take k list) broken
    ∙ ap (λ (l : List Broken). bs ++ broken_texts s archive l) (sym (take-next list k broken is))

pub lines-all : (s : SpaceView) (archive : List Package) (list : List Broken) (k : ℕ) (bs new : List ℕ) → length list ≤ k
    → new ≡ bs ++ broken_texts s archive (take k list) → new ≡ bs ++ broken_texts s archive list
lines-all s archive list k bs new past so_far = so_far ∙ ap (λ (l : List Broken). bs ++ broken_texts s archive l) (take_all k list past)
