-- Clusters and classes are numbered in reports as in the space of the futures, so that claims on pairs say of the one what they say of the other.
use Rattle.std.proofs.Common.{◌≡◌, ℕ, ◌<◌, List, [], ◌++◌, length, map, get_or, inl, inr, Option, Some, None, ap, refl, subst, sym, ◌∙◌, arith}
use Rattle.std.proofs.Common.{slice_get, zero-add}
use Rattle.std.specs.Prelude.{All, Any, Contains, IsSomeAnd}
use Rattle.std.specs.List.{range_with_len}
use Rattle.std.specs.Option.{option_map}
use mathlib.Core.List.{map-map}
use Rattle.std.proofs.lemmas.List.{get_or_default, get_or_past, length-map}
use Rattle.std.proofs.lemmas.List.FromFn.{fill_by_all, get_or-range_with_len, length-range_with_len}
use Rattle.std.proofs.lemmas.List.Elements.{All-map, All-weaker}
use Rattle.std.proofs.lemmas.Option.{get_or_from_slice_get, slice_get-get_or, slice_get-map, slice_get_cases, slice_get_within}
use Rattle.dist_cluster.specs.Relation.{Member}
use Rattle.dist_cluster.specs.Top.{IsTop}
use Rattle.dist_repo.specs.declared.package.Package.{Package}
use Rattle.dist_classes.specs.Answers.{AreClassesOf, AreClustersOf, member_of}
use Rattle.dist_classes.specs.ClassList.{HasExample, IsOfClass, IsOfClassAt, classes_above}
use Rattle.dist_classes.specs.declared.class_value.Class.{Class}
use Rattle.dist_classes.specs.declared.class_value.Class.TheVariants.{Any as AnyVersion}
use Rattle.dist_space.specs.Space.{IsSpace, SpaceView, cluster_classes, example_at}
use Rattle.dist_future.specs.Pairs.{IsOfPair}
use Rattle.dist_cert.specs.declared.records.Claim.{Claim}
use Rattle.dist_cert.specs.declared.records.Claim.TheVariants as claims
use Rattle.dist_check.specs.Means.{IsPairBeside, SaysChallenged, TellsPairs}
use Rattle.dist_report.specs.ClassesReport.{AreToldClusters, ToldCluster}
use Rattle.dist_app.specs.LawsPrivate.{HaveOneCuts, HaveOnePartition, HaveOneTop}
use Rattle.dist_app.specs.Truth.{IsBeside, IsOfToldPair, SaysOfPairs, TellsPairsOf}

pub some-and : {X : Type 0} (o : Option X) (P : X → Type 0) → IsSomeAnd o P → (x : X) × (o ≡ Some x) × P x
some-and None P holds = absurd holds
some-and (Some x) P holds = (x, refl, holds)

pub and-some : {X : Type 0} (o : Option X) (P : X → Type 0) (x : X) → o ≡ Some x → P x → IsSomeAnd o P
and-some o P x is holds = subst (λ p. IsSomeAnd p P) (sym is) holds

any-weaker : {X : Type 0} (P Q : X → Type 0) (xs : List X) → ((x : X) → P x → Q x) → Any P xs → Any Q xs
any-weaker P Q xs weaker (k, x, short, is, holds) = (k, x, short, is, weaker x holds)

-- a cluster that has classes is one of the space
pub cluster-of-class : (s : SpaceView) → IsSpace s → (c k : ℕ) → k < length (cluster_classes s c) → c < length s.clusters.members
cluster-of-class s space c k short = elim (slice_get_cases s.classes c).1 [
  | inl (classes, within, is, read) ↦ omega (arith, within, space.frame.classes_beside)
  | inr (past, is) ↦ absurd (omega (arith, short, ap length (get_or_past s.classes c [] past)))
]

module _ (one_partition : HaveOnePartition) (one_top : HaveOneTop) (one_cuts : HaveOneCuts) (s : SpaceView) (space : IsSpace s)
    (clusters : List ToldCluster) (are : AreToldClusters s.repository clusters) where
  abbrev keys : List Member
  keys = map member_of s.repository.packages

  abbrev told_members : List (List ℕ)
  told_members = map (λ (c : ToldCluster). c.members) clusters

  abbrev told_tops : List (List ℕ)
  told_tops = map (λ (c : ToldCluster). c.top) clusters

  members-are : told_members ≡ s.clusters.members
  members-are = one_partition keys told_members s.clusters.members are.are.partition space.frame.clusters.partition

  -- ---- a cluster of a number

  module _ (c : ℕ) (t : ToldCluster) (is : slice_get clusters c ≡ Some t) where
    told-within : c < length clusters
    told-within = slice_get_within clusters c t is

    pub members-at : slice_get s.clusters.members c ≡ Some t.members
    members-at = subst (λ (list : List (List ℕ)). slice_get list c ≡ Some t.members) members-are
        (slice_get-map (λ (c : ToldCluster). c.members) clusters c ∙ ap (option_map (λ (c : ToldCluster). c.members)) is)

    members-within : c < length s.clusters.members
    members-within = slice_get_within s.clusters.members c t.members members-at

    tops-at : slice_get told_tops c ≡ Some t.top
    tops-at = slice_get-map (λ (c : ToldCluster). c.top) clusters c ∙ ap (option_map (λ (c : ToldCluster). c.top)) is

    told-is-top : IsTop keys t.members t.top
    told-is-top =
        let within : c < length told_members = omega (arith, length-map clusters (λ (c : ToldCluster). c.members), told-within) in
        let own : slice_get told_members c ≡ Some t.members =
        slice_get-map (λ (c : ToldCluster). c.members) clusters c ∙ ap (option_map (λ (c : ToldCluster). c.members)) is in
        subst (λ (x : List ℕ). IsTop keys t.members x) (get_or_from_slice_get told_tops c t.top [] tops-at)
        (subst (λ (x : List ℕ). IsTop keys x (get_or told_tops c [])) (get_or_from_slice_get told_members c t.members [] own) (are.are.tops.each c within))

    top-is : get_or s.clusters.tops c [] ≡ t.top
    top-is = one_top keys t.members (get_or s.clusters.tops c []) t.top
        (subst (λ (x : List ℕ). IsTop keys x (get_or s.clusters.tops c [])) (get_or_from_slice_get s.clusters.members c t.members [] members-at)
        (space.frame.clusters.tops.each c members-within)) told-is-top

    told-classes : AreClassesOf s.repository t.members t.top t.classes
    told-classes = subst (λ (x : ToldCluster). AreClassesOf s.repository x.members x.top x.classes) (get_or_from_slice_get clusters c t t is)
        (are.classes c t told-within)

    own-classes : AreClassesOf s.repository t.members t.top (cluster_classes s c)
    own-classes = subst (λ (x : List ℕ). AreClassesOf s.repository t.members x (cluster_classes s c)) top-is
        (subst (λ (x : List ℕ). AreClassesOf s.repository x (get_or s.clusters.tops c []) (cluster_classes s c))
        (get_or_from_slice_get s.clusters.members c t.members [] members-at) (space.frame.classes c members-within))

    classes-are : cluster_classes s c ≡ t.classes
    classes-are = own-classes.are
        ∙ ap (classes_above t.top) (one_cuts s.repository t.members t.top own-classes.cuts told-classes.cuts own-classes.are_cuts told-classes.are_cuts)
        ∙ sym told-classes.are

  pub told-at : (c : ℕ) → c < length s.clusters.members → (t : ToldCluster) × (slice_get clusters c ≡ Some t)
  told-at c within =
      let none : ToldCluster = record { members = []; top = []; classes = [] } in
      let short : c < length clusters = omega (arith, within, ap length members-are, length-map clusters (λ (c : ToldCluster). c.members)) in
      (get_or clusters c none, slice_get-get_or clusters c none short)

  -- ---- pairs

  pair-of-told : (pair : ℕ × ℕ) (q : Package) (version : List ℕ) → IsOfToldPair s.repository clusters pair q version
      → IsOfPair s pair.0 pair.1 q version
  pair-of-told pair q version told =
      let (k, m, short, read, is) = told.has in
      record {
        member = m;
        in_cluster = and-some (slice_get s.clusters.members pair.0) (λ cluster. Contains cluster m) told.cluster.members
            (members-at pair.0 told.cluster told.is_cluster) (k, short, read);
        is = is;
        is_version = told.is_version;
        of_class = subst (λ (classes : List Class). IsOfClassAt classes pair.1 version) (sym (classes-are pair.0 told.cluster told.is_cluster)) told.of_class;
      }

  told-of-pair : (pair : ℕ × ℕ) (q : Package) (version : List ℕ) → IsOfPair s pair.0 pair.1 q version
      → IsOfToldPair s.repository clusters pair q version
  told-of-pair pair q version own =
      let (members, members_is, has) = some-and (slice_get s.clusters.members pair.0) (λ cluster. Contains cluster own.member) own.in_cluster in
      let (t, is) = told-at pair.0 (slice_get_within s.clusters.members pair.0 members members_is) in
      record {
        cluster = t;
        is_cluster = is;
        has = in-told members t (same members t members_is (members-at pair.0 t is)) has own.is;
        is_version = own.is_version;
        of_class = subst (λ (classes : List Class). IsOfClassAt classes pair.1 version) (classes-are pair.0 t is) own.of_class;
      }
    where
      same : (members : List ℕ) (t : ToldCluster) → slice_get s.clusters.members pair.0 ≡ Some members
          → slice_get s.clusters.members pair.0 ≡ Some t.members → members ≡ t.members
      same members t one other = cc

      in-told : (members : List ℕ) (t : ToldCluster) → members ≡ t.members → Contains members own.member
          → slice_get s.repository.packages own.member ≡ Some q → Any (λ m. slice_get s.repository.packages m ≡ Some q) t.members
      in-told members t same_are has is =
          let there = subst (λ (x : List ℕ). Contains x own.member) same_are has in
          (there.0, own.member, there.1, there.2, is)

  -- ---- claims

  beside-told : (number : ℕ) (pair : ℕ × ℕ) → IsPairBeside s number pair → IsBeside clusters number pair
  beside-told number pair (is_class, outside) =
      let (t, is) = told-at pair.0 (cluster-of-class s space pair.0 pair.1 is_class) in
      and-some (slice_get clusters pair.0) (λ cluster. (pair.1 < length cluster.classes) × (¬ Contains cluster.members number)) t is (
        subst (λ (classes : List Class). pair.1 < length classes) (classes-are pair.0 t is) is_class,
        λ has. outside (and-some (slice_get s.clusters.members pair.0) (λ cluster. Contains cluster number) t.members (members-at pair.0 t is) has),
      )

  pairs-told : (number : ℕ) (p : Package) (by undecided : List (ℕ × ℕ)) → TellsPairs s number p by undecided
      → TellsPairsOf s.essential s.repository clusters number p by undecided
  pairs-told number p by undecided tells = record {
    pairs = All-weaker (IsPairBeside s number) (IsBeside clusters number) (beside-told number) (by ++ undecided) tells.pairs;
    listed = λ pair q version listed told. tells.listed pair.0 pair.1 q version (pair-of-told pair q version told) listed;
    others = λ q version challenges.
        any-weaker (λ pair. IsOfPair s pair.0 pair.1 q version) (λ pair. IsOfToldPair s.repository clusters pair q version) (by ++ undecided)
        (λ pair. told-of-pair pair q version) (tells.others q version challenges);
  }

  pub says-of-pairs : (number : ℕ) (p : Package) (claim : Claim) → SaysChallenged s number p claim
      → SaysOfPairs s.essential s.repository clusters number p claim
  says-of-pairs number p claims.Uninstallable says = says
  says-of-pairs number p claims.Unknown says = says
  says-of-pairs number p (claims.Strong on undecided) says = says
  says-of-pairs number p claims.Outdated says = says
  says-of-pairs number p claims.Alive says = says
  says-of-pairs number p (claims.Challenged by undecided) (installable, tells) = (installable, pairs-told number p by undecided tells)

-- ---- the clusters of a space, as they are told

module _ (s : SpaceView) (space : IsSpace s) where
  abbrev told_cluster : ℕ → ToldCluster
  told_cluster c = record { members = get_or s.clusters.members c []; top = get_or s.clusters.tops c []; classes = cluster_classes s c }

  abbrev own_numbers : List ℕ
  own_numbers = range_with_len 0 (length s.clusters.members)

  abbrev pub told_clusters : List ToldCluster
  told_clusters = map told_cluster own_numbers

  same-members : map (λ (c : ToldCluster). c.members) told_clusters ≡ s.clusters.members
  same-members = map-map (λ (c : ToldCluster). c.members) told_cluster own_numbers
      ∙ sym (fill_by_all (λ c. get_or s.clusters.members c []) s.clusters.members (length s.clusters.members) [] refl (λ k short. refl))

  same-tops : map (λ (c : ToldCluster). c.top) told_clusters ≡ s.clusters.tops
  same-tops = map-map (λ (c : ToldCluster). c.top) told_cluster own_numbers
      ∙ sym (fill_by_all (λ c. get_or s.clusters.tops c []) s.clusters.tops (length s.clusters.members) [] space.frame.clusters.tops.aligned (λ k short. refl))

  of-each : (P : ToldCluster → Type 0) → ((c : ℕ) → c < length s.clusters.members → P (told_cluster c)) → All P told_clusters
  of-each P holds = All-map P told_cluster own_numbers (λ k d short.
      let inside : k < length s.clusters.members = omega (arith, short, length-range_with_len 0 (length s.clusters.members)) in
      subst (λ (c : ℕ). P (told_cluster c)) (sym (get_or-range_with_len 0 (length s.clusters.members) k d inside ∙ zero-add k))
      (holds k inside))

  has-examples : (c : ℕ) → All HasExample (cluster_classes s c)
  has-examples c k d short =
      let (is_version, of_class) = space.frame.examples c k short in
      let here = get_or_default (cluster_classes s c) k d AnyVersion short in
      subst HasExample (sym here) (is_version, class-holds (cluster_classes s c) k short of_class)
    where
      class-holds : (classes : List Class) (k : ℕ) → k < length classes → IsOfClassAt classes k (example_at classes k)
          → IsOfClass (get_or classes k AnyVersion) (example_at classes k)
      class-holds classes k short of_class =
          subst (λ (o : Option Class). IsSomeAnd o (λ class. IsOfClass class (example_at classes k))) (slice_get-get_or classes k AnyVersion short) of_class

  pub are-told : AreToldClusters s.repository told_clusters
  are-told = record {
    are = subst (λ (list : List (List ℕ)). AreClustersOf s.repository (record { members = list; tops = map (λ (c : ToldCluster). c.top) told_clusters }))
        (sym same-members)
        (subst (λ (list : List (List ℕ)). AreClustersOf s.repository (record { members = s.clusters.members; tops = list })) (sym same-tops)
        space.frame.clusters);
    classes = of-each (λ c. AreClassesOf s.repository c.members c.top c.classes) space.frame.classes;
    examples = of-each (λ c. All HasExample c.classes) (λ c within. has-examples c);
  }
