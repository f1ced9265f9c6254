-- The clusters of a repository as they are kept with their classes.
use Rattle.std.proofs.Common.{◌≡◌, ℕ, ◌≤◌, List, [], ◌∷◌, ◌++◌, length, map, get_or, Option, None, Some, refl, sym, ap, ◌∙◌, slice_get}
use Rattle.std.proofs.lemmas.List.{map-append}
use Rattle.std.proofs.lemmas.Option.{get_or_from_slice_get, slice_get-map}
use Rattle.dist_cluster.specs.Top.{ClusterList}
use Rattle.dist_repo.specs.PackageList.{PackageList}
use Rattle.dist_repo.specs.declared.package.Package.{Package}
use Rattle.dist_classes.specs.Answers.{AreClustersOf}
use Rattle.dist_classes.specs.declared.class_value.Class.{Class}
use Rattle.dist_report.specs.ChallengedReport.{pair_lines}
use Rattle.dist_report.specs.ClassTablePrivate.{AreKept, kept_lines}
use Rattle.dist_report.specs.ClassesReport.{ToldCluster}
use Rattle.dist_report.proofs.ToldLemmas.{AreToldSoFar, told-all, told-at}

-- these are the classes of the clusters that are told
abbrev pub AreClassesIn : List (List Class) → List ToldCluster → Type 0
AreClassesIn classes told = map (λ t. t.classes) told ≡ classes

pub classes-told : (clusters : ClusterList) (k : ℕ) (own : List Class) (classes later : List (List Class)) → later ≡ classes ++ own ∷ []
    → (told : List ToldCluster) → AreClassesIn classes told → AreClassesIn later (told ++ told-at clusters k own ∷ [])
classes-told clusters k own classes later pushed told so_far =
    map-append (λ (t : ToldCluster). t.classes) told (told-at clusters k own ∷ []) ∙ ap (λ (list : List (List Class)). list ++ own ∷ []) so_far ∙ sym pushed

pub all-kept : (r : PackageList) (clusters : ClusterList) (k : ℕ) (classes : List (List Class)) → length clusters.members ≤ k → AreClustersOf r clusters
    → AreToldSoFar r clusters k (AreClassesIn classes) → AreKept r clusters classes
all-kept r clusters k classes past are so_far =
    let all = told-all r clusters k (AreClassesIn classes) past are so_far in
    record { told = so_far.told; are = all.are; some = are.partition.some; members = all.members; classes_are = so_far.holds }

-- ---- the lines of a class by what is kept, and by what is told

lines-at : (packages : List Package) (told : List ToldCluster) (broken : List ℕ) (pair : ℕ × ℕ) (o : Option ToldCluster) → slice_get told pair.0 ≡ o
    → kept_lines packages (map (λ t. t.members) told) (map (λ t. t.classes) told) broken pair ≡ pair_lines packages told broken pair
lines-at packages told broken pair None is =
    let none : slice_get (map (λ (t : ToldCluster). t.classes) told) pair.0 ≡ None = slice_get-map (λ (t : ToldCluster). t.classes) told pair.0 ∙ rw is refl in
    rw (none, is) refl
lines-at packages told broken pair (Some t) is =
    let classes : slice_get (map (λ (t : ToldCluster). t.classes) told) pair.0 ≡ Some t.classes =
    slice_get-map (λ (t : ToldCluster). t.classes) told pair.0 ∙ rw is refl in
    let found : slice_get (map (λ (t : ToldCluster). t.members) told) pair.0 ≡ Some t.members =
    slice_get-map (λ (t : ToldCluster). t.members) told pair.0 ∙ rw is refl in
    let members : get_or (map (λ (t : ToldCluster). t.members) told) pair.0 [] ≡ t.members =
    get_or_from_slice_get (map (λ (t : ToldCluster). t.members) told) pair.0 t.members [] found in
    rw (classes, members, is) refl

pub lines-kept : (r : PackageList) (clusters : ClusterList) (classes : List (List Class)) (kept : AreKept r clusters classes) (broken : List ℕ) (pair : ℕ × ℕ)
    → kept_lines r.packages clusters.members classes broken pair ≡ pair_lines r.packages kept.told broken pair
lines-kept r clusters classes kept broken pair =
    ap (λ (m : List (List ℕ)). kept_lines r.packages m classes broken pair) (sym kept.members)
    ∙ ap (λ (k : List (List Class)). kept_lines r.packages (map (λ (t : ToldCluster). t.members) kept.told) k broken pair) (sym kept.classes_are)
    ∙ lines-at r.packages kept.told broken pair (slice_get kept.told pair.0) refl
