-- A flat repository has a space, where its versions are versions: its clusters, their tops and classes, and its new names are
-- there, and so are their numbers.
use Rattle.std.proofs.Common.{◌≡◌, ◌↔◌, ℕ, zero, suc, ◌<◌, Bool, List, [], ◌∷◌, ◌++◌, Some, length, get_or, map, refl, ap, subst, ◌∙◌, arith, slice_get}
use Rattle.std.specs.Prelude.{All, Contains}
use Rattle.std.proofs.lemmas.List.{length_push}
use Rattle.std.proofs.lemmas.List.Elements.{All-contains, All-map}
use Rattle.std.proofs.lemmas.Option.{get_or_from_slice_get, slice_get-get_or, slice_get_within}
use Rattle.dist_base.specs.ListLaws.{at-has, contains-at, found-at, here-at}
use Rattle.dist_version.specs.Spelling.{IsVersion}
use Rattle.dist_cluster.specs.Partition.{IsIn, IsPartition}
use Rattle.dist_cluster.specs.Relation.{Member}
use Rattle.dist_cluster.specs.Top.{AreTops, ClusterList, IsTop}
use Rattle.dist_repo.specs.Order.{IsFlat}
use Rattle.dist_repo.specs.PackageList.{PackageList}
use Rattle.dist_repo.specs.declared.package.Package.{Package}
use Rattle.dist_classes.specs.Answers.{AreClassesOf, AreClassesOfName, AreClustersOf, member_of}
use Rattle.dist_classes.specs.Atoms.{AreBoundsVersions}
use Rattle.dist_classes.specs.ClassList.{HasExample, IsOfClass}
use Rattle.dist_classes.specs.NewNames.{AreNewNames}
use Rattle.dist_classes.specs.declared.class_value.Class.{Class}
use Rattle.dist_classes.specs.declared.class_value.Class.TheVariants as class
use Rattle.dist_space.specs.Kept.{AreClassesBeside, AreExampled, AreNameClassesBeside, IsFrameOf}
use Rattle.dist_space.specs.NumberingPrivate.{meanings_of}
use Rattle.dist_space.specs.Space.{SpaceView, example_at}
use Rattle.dist_space.specs.SpaceOf.{IsSpaceOf}
use Rattle.dist_space.proofs.FrameLemmas.{each-past, each-push, every-member, framed, member-within, none-exampled}
use Rattle.dist_space.proofs.WholeSpace.{whole-of, with_meanings}

-- ---- what is there below

pub record ThereLaws : Type 0 where
  pub partition : (members : List Member) → (clusters : List (List ℕ)) × IsPartition members clusters
  pub one_cluster : (members : List Member) (clusters : List (List ℕ)) → IsPartition members clusters → (c d m : ℕ) → IsIn clusters c m → IsIn clusters d m
      → c ≡ d
  pub tops : (members : List Member) (clusters : List (List ℕ)) → IsPartition members clusters
      → (tops : List (List ℕ)) × AreTops members (record { members = clusters; tops = tops })
  pub classes : (r : PackageList) (members top : List ℕ) → (classes : List Class) × AreClassesOf r members top classes
  pub name_classes : (r : PackageList) (name : List ℕ) → (classes : List Class) × AreClassesOfName r name classes
  pub names : (r : PackageList) → (names : List (List ℕ)) × AreNewNames r names
  pub some_examples : (r : PackageList) (members top : List ℕ) (classes : List Class) → AreBoundsVersions r → IsVersion top → AreClassesOf r members top classes
      → All HasExample classes
  pub some_name_examples : (r : PackageList) (name : List ℕ) (classes : List Class) → AreBoundsVersions r → AreClassesOfName r name classes
      → All HasExample classes

-- ---- lists of what is there for each number

module _ {X : Type 0} (P : ℕ → X → Type 0) (d : X) where
  record Gathered (n : ℕ) : Type 0 where
    list : List X
    count : length list ≡ n
    each : (k : ℕ) → k < n → P k (get_or list k d)

  gathered : (n : ℕ) → ((k : ℕ) → k < n → (x : X) × P k x) → Gathered n
  gathered zero some = record { list = []; count = refl; each = λ k short. absurd (omega (arith, short)) }
  gathered (suc n) some =
      let rest = gathered n (λ k short. some k (omega (arith, short))) in
      let one = some n (omega arith) in
      record {
        list = rest.list ++ one.0 ∷ [];
        count = let e = length_push rest.list one.0 in let same = rest.count in omega (arith, e, same);
        each = λ k short. each-push P rest.list one.0 d n rest.count rest.each one.1 k (omega (arith, short));
      }

-- ---- examples

exampled-from : (classes : List Class) → All HasExample classes → AreExampled classes
exampled-from classes all k short =
    let one = get_or classes k class.Any in
    let has : HasExample one = all k class.Any short in
    (has.0, at-has (λ c. IsOfClass c (example_at classes k)) classes k one (slice_get-get_or classes k class.Any short) has.1)

top-version : (packages : List Package) → All (λ p. IsVersion p.version) packages → (cluster top : List ℕ) → IsTop (map member_of packages) cluster top
    → IsVersion top
top-version packages versions cluster top is =
    let keys : List Member = map member_of packages in
    let Spelled : Member → Type 0 = λ m. IsVersion m.version in
    let one = here-at (λ (m : Member). m.version ≡ top) keys is.there.1 is.there.4 in
    subst IsVersion one.holds (All-contains Spelled keys one.element (All-map Spelled member_of packages versions)
    (contains-at keys is.there.1 one.element one.is))

-- ---- the space

module _ (laws : ThereLaws) (r : PackageList) (bounds : AreBoundsVersions r) (versions : All (λ p. IsVersion p.version) r.packages) where
  abbrev keys : List Member
  keys = map member_of r.packages

  abbrev members : List (List ℕ)
  members = (laws.partition keys).0

  abbrev tops : List (List ℕ)
  tops = (laws.tops keys members (laws.partition keys).1).0

  abbrev clusters : ClusterList
  clusters = record { members = members; tops = tops }

  are-clusters : AreClustersOf r clusters
  are-clusters = record { partition = (laws.partition keys).1; tops = (laws.tops keys members (laws.partition keys).1).1 }

  -- the number of the cluster of each package
  abbrev IsNumber : ℕ → ℕ → Type 0
  IsNumber m c = IsIn members c m

  numbers : Gathered IsNumber 0 (length r.packages)
  numbers = gathered IsNumber 0 (length r.packages) (λ m short.
      let at = found-at (λ (cluster : List ℕ). Contains cluster m) members (every-member r clusters are-clusters m short) in
      (at.place, at-has (λ (cluster : List ℕ). Contains cluster m) members at.place at.element at.is at.holds))

  placed : (c m : ℕ) → IsIn members c m ↔ (slice_get numbers.list m ≡ Some c)
  placed c m = (
    λ is_in.
        let short = member-within r clusters are-clusters c m is_in in
        let same : get_or numbers.list m 0 ≡ c =
        laws.one_cluster keys members (laws.partition keys).1 (get_or numbers.list m 0) c m (numbers.each m short) is_in in
        slice_get-get_or numbers.list m 0 (omega (arith, short, numbers.count)) ∙ ap (λ (x : ℕ). Some x) same,
    λ at.
        let short = slice_get_within numbers.list m c at in
        subst (λ (x : ℕ). IsIn members x m) (get_or_from_slice_get numbers.list m c 0 at) (numbers.each m (omega (arith, short, numbers.count))),
  )

  -- the classes of each cluster, and of each new name
  abbrev AreItsClasses : ℕ → List Class → Type 0
  AreItsClasses c classes = AreClassesOf r (get_or members c []) (get_or tops c []) classes × AreExampled classes

  classes : Gathered AreItsClasses [] (length members)
  classes = gathered AreItsClasses [] (length members) (λ c short.
      let one = laws.classes r (get_or members c []) (get_or tops c []) in
      let spelled = top-version r.packages versions (get_or members c []) (get_or tops c []) (are-clusters.tops.each c short) in
      (one.0, (one.1, exampled-from one.0 (laws.some_examples r (get_or members c []) (get_or tops c []) one.0 bounds spelled one.1))))

  abbrev names : List (List ℕ)
  names = (laws.names r).0

  abbrev AreItsNameClasses : ℕ → List Class → Type 0
  AreItsNameClasses x classes = AreClassesOfName r (get_or names x []) classes × AreExampled classes

  name-classes : Gathered AreItsNameClasses [] (length names)
  name-classes = gathered AreItsNameClasses [] (length names) (λ x short.
      let one = laws.name_classes r (get_or names x []) in
      (one.0, (one.1, exampled-from one.0 (laws.some_name_examples r (get_or names x []) one.0 bounds one.1))))

  beside : AreClassesBeside r clusters classes.list
  beside = record {
    beside = classes.count;
    are = λ c short. (classes.each c short).0;
    examples = each-past AreExampled classes.list [] none-exampled (λ c short. (classes.each c (omega (arith, short, classes.count))).1);
  }

  names-beside : AreNameClassesBeside r names name-classes.list
  names-beside = record {
    beside = name-classes.count;
    are = λ x short. (name-classes.each x short).0;
    examples = each-past AreExampled name-classes.list [] none-exampled
        (λ x short. (name-classes.each x (omega (arith, short, name-classes.count))).1);
  }

  pub some-space : (essential : Bool) → IsFlat r.packages → (s : SpaceView) × IsSpaceOf r essential s
  some-space essential flat =
      let frame : SpaceView = record {
        repository = r;
        essential = essential;
        clusters = clusters;
        cluster_of = numbers.list;
        classes = classes.list;
        names = names;
        name_classes = name-classes.list;
        meanings = [];
      } in
      let of : IsFrameOf r essential frame = record {
        frame = framed r essential clusters numbers.list classes.list names name-classes.list flat are-clusters placed beside (laws.names r).1 names-beside;
        repository = refl;
        essential_is = refl;
      } in
      (with_meanings frame (meanings_of frame), whole-of r essential frame (meanings_of frame) of refl)
