-- A repository has a report, where its versions are versions: its clusters, their tops and classes, and its new names are there.
use Rattle.std.proofs.Common.{◌≡◌, ℕ, suc, ◌<◌, List, [], ◌∷◌, length, map, get_or, Option, None, Some, refl, sym, ap, subst, arith, slice_get}
use Rattle.std.specs.Prelude.{All, IsSomeAnd}
use Rattle.std.specs.Option.{option_map}
use Rattle.std.proofs.lemmas.List.Elements.{All-cons, All-nil}
use Rattle.std.proofs.lemmas.Option.{get_or_from_slice_get, slice_get-map, slice_get_within}
use Rattle.dist_version.specs.Spelling.{IsVersion}
use Rattle.dist_cluster.specs.Partition.{IsPartition}
use Rattle.dist_cluster.specs.Relation.{Member}
use Rattle.dist_cluster.specs.Top.{AreTops, IsTop}
use Rattle.dist_repo.specs.PackageList.{PackageList}
use Rattle.dist_repo.specs.declared.package.Package.{Package}
use Rattle.dist_classes.specs.Answers.{AreClassesOf, AreClassesOfName, AreClustersOf, member_of}
use Rattle.dist_classes.specs.Atoms.{AreBoundsVersions}
use Rattle.dist_classes.specs.ClassList.{HasExample}
use Rattle.dist_classes.specs.NewNames.{AreNewNames}
use Rattle.dist_classes.specs.declared.class_value.Class.{Class}
use Rattle.dist_report.specs.ClassesReport.{AreToldClusters, IsClassesText, ToldCluster, ToldName, classes_lines}

abbrev pub AreVersions : List Package → Type 0
AreVersions packages = All (λ p. IsVersion p.version) packages

version-at : (packages : List Package) → AreVersions packages → (n : ℕ) (o : Option Package) (v : List ℕ) → slice_get packages n ≡ o
    → IsSomeAnd (option_map member_of o) (λ m. m.version ≡ v) → IsVersion v
version-at packages versions n None v at h = absurd h
version-at packages versions n (Some p) v at h =
    let Of : Package → Type 0 = λ q. IsVersion q.version in
    subst IsVersion h (subst Of (get_or_from_slice_get packages n p p at) (versions n p (slice_get_within packages n p at)))

top-version : (packages : List Package) → AreVersions packages → (cluster top : List ℕ) → IsTop (map member_of packages) cluster top → IsVersion top
top-version packages versions cluster top is =
    let one = is.there in
    let Here : Option Member → Type 0 = λ o. IsSomeAnd o (λ m. m.version ≡ top) in
    version-at packages versions one.1 (slice_get packages one.1) top refl (subst Here (slice_get-map member_of packages one.1) one.4)

-- ---- what is told

record Told (r : PackageList) (members tops : List (List ℕ)) : Type 0 where
  clusters : List ToldCluster
  same_members : map (λ (c : ToldCluster). c.members) clusters ≡ members
  same_tops : map (λ (c : ToldCluster). c.top) clusters ≡ tops
  classes : All (λ c. AreClassesOf r c.members c.top c.classes) clusters
  examples : All (λ c. All HasExample c.classes) clusters

module _ (some_partition : (members : List Member) → (clusters : List (List ℕ)) × IsPartition members clusters)
    (some_tops : (members : List Member) (clusters : List (List ℕ)) → IsPartition members clusters → (tops : List (List ℕ))
    × AreTops members (record { members = clusters; tops = tops }))
    (some_classes : (r : PackageList) (members top : List ℕ) → (classes : List Class) × AreClassesOf r members top classes)
    (none_empty : (r : PackageList) (members top : List ℕ) (classes : List Class) → AreBoundsVersions r → IsVersion top → AreClassesOf r members top classes
    → All HasExample classes) where
  tell : (r : PackageList) → AreBoundsVersions r → (members tops : List (List ℕ)) → length tops ≡ length members
      → ((k : ℕ) → k < length tops → IsVersion (get_or tops k [])) → Told r members tops
  tell r bounds [] [] aligned versions = record {
    clusters = [];
    same_members = refl;
    same_tops = refl;
    classes = All-nil (λ (c : ToldCluster). AreClassesOf r c.members c.top c.classes);
    examples = All-nil (λ (c : ToldCluster). All HasExample c.classes);
  }
  tell r bounds [] (t ∷ tops) aligned versions = absurd (omega (arith, aligned))
  tell r bounds (m ∷ members) [] aligned versions = absurd (omega (arith, aligned))
  tell r bounds (m ∷ members) (t ∷ tops) aligned versions =
      let one = some_classes r m t in
      let first : ToldCluster = record { members = m; top = t; classes = one.0 } in
      let rest = tell r bounds members tops (omega (arith, aligned)) (λ k short. versions (suc k) (omega arith)) in
      record {
        clusters = first ∷ rest.clusters;
        same_members = ap (λ (list : List (List ℕ)). m ∷ list) rest.same_members;
        same_tops = ap (λ (list : List (List ℕ)). t ∷ list) rest.same_tops;
        classes = All-cons (λ (c : ToldCluster). AreClassesOf r c.members c.top c.classes) first rest.clusters one.1 rest.classes;
        examples = All-cons (λ (c : ToldCluster). All HasExample c.classes) first rest.clusters (none_empty r m t one.0 bounds (versions 0 (omega arith)) one.1)
            rest.examples;
      }

  pub some-clusters : (r : PackageList) → AreBoundsVersions r → AreVersions r.packages → (clusters : List ToldCluster) × AreToldClusters r clusters
  some-clusters r bounds versions =
      let keys : List Member = map member_of r.packages in
      let partition = some_partition keys in
      let tops = some_tops keys partition.0 partition.1 in
      let told = tell r bounds partition.0 tops.0 tops.1.aligned
      (λ k short. top-version r.packages versions (get_or partition.0 k []) (get_or tops.0 k []) (tops.1.each k (omega (arith, tops.1.aligned)))) in
      let Members : List (List ℕ) → Type 0 = λ list. AreClustersOf r (record { members = list; tops = tops.0 }) in
      let Tops : List (List ℕ) → Type 0 = λ list. AreClustersOf r (record { members = map (λ (c : ToldCluster). c.members) told.clusters; tops = list }) in
      let are : AreClustersOf r (record { members = partition.0; tops = tops.0 }) = record { partition = partition.1; tops = tops.1 } in (
        told.clusters,
        record {
          are = subst Tops (sym told.same_tops) (subst Members (sym told.same_members) are);
          classes = told.classes;
          examples = told.examples;
        },
      )

record ToldNames (r : PackageList) (names : List (List ℕ)) : Type 0 where
  told : List ToldName
  same : map (λ (n : ToldName). n.name) told ≡ names
  classes : All (λ n. AreClassesOfName r n.name n.classes) told
  examples : All (λ n. All HasExample n.classes) told

module _ (some_clusters : (r : PackageList) → AreBoundsVersions r → AreVersions r.packages → (clusters : List ToldCluster) × AreToldClusters r clusters)
    (some_name_classes : (r : PackageList) (name : List ℕ) → (classes : List Class) × AreClassesOfName r name classes)
    (some_names : (r : PackageList) → (names : List (List ℕ)) × AreNewNames r names)
    (none_empty_of_name : (r : PackageList) (name : List ℕ) (classes : List Class) → AreBoundsVersions r → AreClassesOfName r name classes
    → All HasExample classes) where
  tell-names : (r : PackageList) → AreBoundsVersions r → (names : List (List ℕ)) → ToldNames r names
  tell-names r bounds [] = record {
    told = [];
    same = refl;
    classes = All-nil (λ (n : ToldName). AreClassesOfName r n.name n.classes);
    examples = All-nil (λ (n : ToldName). All HasExample n.classes);
  }
  tell-names r bounds (name ∷ names) =
      let one = some_name_classes r name in
      let first : ToldName = record { name = name; classes = one.0 } in
      let rest = tell-names r bounds names in
      record {
        told = first ∷ rest.told;
        same = ap (λ (list : List (List ℕ)). name ∷ list) rest.same;
        classes = All-cons (λ (n : ToldName). AreClassesOfName r n.name n.classes) first rest.told one.1 rest.classes;
        examples = All-cons (λ (n : ToldName). All HasExample n.classes) first rest.told (none_empty_of_name r name one.0 bounds one.1) rest.examples;
      }

  pub some-text : (r : PackageList) → AreBoundsVersions r → AreVersions r.packages → (text : List ℕ) × IsClassesText r text
  some-text r bounds versions =
      let told = some_clusters r bounds versions in
      let names = some_names r in
      let told_names = tell-names r bounds names.0 in (
        classes_lines r.packages told.0 told_names.told,
        record {
          clusters = told.0;
          names = told_names.told;
          are_clusters = told.1;
          are_names = record { are = subst (AreNewNames r) (sym told_names.same) names.1; classes = told_names.classes; examples = told_names.examples };
          is = refl;
        },
      )
