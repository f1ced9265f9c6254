-- The models of a space's clauses stand for futures.
use Rattle.std.proofs.Common.{◌≡◌, ℕ, ◌<◌, Bool, true, List, [], ◌∷◌, Option, Some, None, Equal, length, get_or, refl, sym, ap, subst, ◌∙◌, inl, inr, arith}
use Rattle.std.proofs.Common.{slice_get}
use Rattle.std.specs.Prelude.{All, Contains, slice_index}
use Rattle.std.proofs.lemmas.Bool.{cases_lt}
use Rattle.std.proofs.lemmas.List.Elements.{All-cons, All-head, All-nil, All-tail}
use Rattle.std.proofs.lemmas.Option.{slice_get-get_or, slice_get_within}
use Rattle.dist_base.specs.ListLaws.{any-contained, at-has, contains-at, element-at, within-from}
use Rattle.dist_version.specs.Order.{version_cmp}
use Rattle.dist_version.specs.Spelling.{IsVersion}
use Rattle.dist_clause.specs.Formula.{Literal, IsModel, value_of}
use Rattle.dist_cluster.specs.Partition.{IsIn}
use Rattle.dist_repo.specs.DecidedLaws.{both-decided, IsDecided}
use Rattle.dist_repo.specs.Strong.{IsInstallable, IsInstallation}
use Rattle.dist_repo.specs.declared.package.Package.{Package}
use Rattle.dist_classes.specs.ClassList.{IsOfClass, IsOfClassAt}
use Rattle.dist_future.specs.Future.{IsFuture, IsInClusterOf, Moves, Stays}
use Rattle.dist_future.specs.Outdated.{HoldsCluster, IsInstallableAt, IsInstallableLater, IsInstallationOf}
use Rattle.dist_space.specs.Space.{IsSpace, SpaceView, cluster_classes, example_at, variable_of}
use Rattle.dist_space_clauses.specs.SpaceClauses.{AreSpaceClauses}
use Rattle.dist_future.specs.SpaceLaws.{HasModelWith, StandForFutures, StandsForFuture, examples_of, holds_under}
use Rattle.dist_future.specs.Stands.{future_of, installation_of}
use Rattle.dist_space.specs.declared.meaning.Meaning.{Meaning}
use Rattle.dist_space.specs.declared.meaning.Meaning.TheVariants.{Now, Present, At}
use Rattle.dist_future.proofs.ClassMatch.{ClassLaws}
use Rattle.dist_future.proofs.DemandLemmas.{IsTrueMeaning, met-from-model}
use Rattle.dist_future.proofs.FutureToModel.{IsFate, IsSeen, option-cases}
use Rattle.dist_future.proofs.FutureValues.{future-model, number-decided}
use Rattle.dist_future.proofs.ModelToFuture.{AreVersions, future-is, healthy-is, holds-cluster, old-member, today-is}
use Rattle.dist_future.proofs.SpaceLemmas.{class-of, class_at-same, never-at, one-class, one-of-name, same-clustered, top-below}
use Rattle.dist_space.specs.ClusterLaws.{has-cluster, in-package, placed-in}
use Rattle.dist_classes.specs.VersionOrderLaws.{equal-back}

module _ (laws : ClassLaws) (s : SpaceView) (space : IsSpace s) where
  -- ---- the fates of clusters in a future

  in-cluster : (m n : ℕ) (p q : Package) → slice_get s.repository.packages m ≡ Some p → slice_get s.repository.packages n ≡ Some q
      → slice_index s.cluster_of n ≡ slice_index s.cluster_of m → IsInClusterOf s.repository p q
  in-cluster m n p q is_p is_q same = record {
    there = contains-at s.repository.packages n q is_q;
    clustered = same-clustered s space.frame m n p q is_p is_q same;
  }

  abbrev HasFate : List Package → ℕ → Type 0
  HasFate future c = (o : Option ℕ) × IsFate s future c o

  stays-fate : (future : List Package) (m : ℕ) (p : Package) → slice_get s.repository.packages m ≡ Some p → Stays s.repository future p
      → HasFate future (slice_index s.cluster_of m)
  stays-fate future m p is stays = (None, λ n q x is_q same there name. stays q x (in-cluster m n p q is is_q same) there name)

  moves-fate : (future : List Package) (m : ℕ) (p : Package) → slice_get s.repository.packages m ≡ Some p → Moves s.repository future p
      → HasFate future (slice_index s.cluster_of m)
  moves-fate future m p is moves =
      let c = slice_index s.cluster_of m in
      let has = has-cluster s space.frame m (slice_get_within s.repository.packages m p is) in
      let class = class-of laws s space.frame c moves.version has.within (top-below s space.frame m p moves.version is moves.above) in (
        Some class.class,
        λ n q x is_q same there name.
            let h = moves.moved q x (in-cluster m n p q is is_q same) there name in
            (h.0, class_at-same (cluster_classes s c) class.class moves.version x.version (equal-back x.version moves.version h.1) class.is),
      )

  pub fate-of : (future : List Package) → IsFuture s.repository future → (c : ℕ) → (o : Option ℕ) × (c < length s.clusters.members → IsFate s future c o)
  fate-of future is_future c = elim (cases_lt c (length s.clusters.members)) [
    | inr past ↦ (None, λ short. absurd (omega (arith, past, short)))
    | inl short ↦
        let first = element-at (get_or s.clusters.members c []) 0 (space.frame.clusters.partition.some c [] short) in
        let there = contains-at (get_or s.clusters.members c []) 0 first.element first.is in
        let p = in-package s space.frame c first.element short there in
        let is_in : IsIn s.clusters.members c first.element =
        at-has (λ (cluster : List ℕ). Contains cluster first.element) s.clusters.members c (get_or s.clusters.members c [])
        (slice_get-get_or s.clusters.members c [] short) there in
        let same : slice_index s.cluster_of first.element ≡ c = placed-in s space.frame c first.element is_in in
        let fate : HasFate future (slice_index s.cluster_of first.element) =
        elim (is_future.clusters p.package_is (contains-at s.repository.packages first.element p.package_is p.is)) [
          | inl stays ↦ stays-fate future first.element p.package_is p.is stays
          | inr moves ↦ moves-fate future first.element p.package_is p.is moves
        ] in
        (fate.0, λ within. subst (λ (x : ℕ). IsFate s future x fate.0) same fate.1)
  ]

  -- ---- from a future to a model

  seen-by : (future members : List Package) (is_future : IsFuture s.repository future) → IsInstallationOf s.essential s.repository future members
      → IsSeen s future members ⊥ (λ c. (fate-of future is_future c).0)
  seen-by future members is_future healthy = record {
    flat = is_future.one_of_a_name;
    healthy = healthy;
    fates = λ c short. (fate-of future is_future c).1 short;
    fresh = is_future.fresh;
    now = inr (λ h. h);
    now_stays = λ h c. absurd h;
    now_taken = λ h n there. absurd h;
  }

  seen-today : (members : List Package) → IsInstallation s.essential s.repository members → IsSeen s s.repository.packages members (Unit {0}) (λ c. None)
  seen-today members healthy = record {
    flat = space.frame.flat;
    healthy = record {
      chosen = healthy.chosen;
      one_of_a_name = healthy.one_of_a_name;
      met = healthy.met;
      no_conflict = healthy.no_conflict;
      has_required = healthy.has_required;
    };
    fates = λ c short m q n is same there name. one-of-name s.repository.packages n q space.frame.flat there (contains-at s.repository.packages m q is) name;
    fresh = λ n there not_taken. absurd (not_taken (any-contained (λ (q : Package). q.name ≡ n.name) s.repository.packages n there refl));
    now = inl tt;
    now_stays = λ h c. refl;
    now_taken = λ h n there. any-contained (λ (q : Package). q.name ≡ n.name) s.repository.packages n there refl;
  }

  module _ (clauses : List (List Literal)) (are : AreSpaceClauses s clauses) where
    abbrev one-true : (P : Meaning → Type 0) (m : Meaning) → P m → All P (m ∷ [])
    one-true P m holds = All-cons P m [] holds (All-nil P)

    abbrev two-true : (P : Meaning → Type 0) (m n : Meaning) → P m → P n → All P (m ∷ n ∷ [])
    two-true P m n first second = All-cons P m (n ∷ []) first (one-true P n second)

    model-later : (n : ℕ) (p : Package) → slice_get s.repository.packages n ≡ Some p → IsInstallableLater s.essential s.repository p
        → HasModelWith s clauses (Present n ∷ [])
    model-later n p is later =
        let seen = seen-by later.future later.installable.members later.is_future later.installable.healthy in
        let fate : ℕ → Option ℕ = λ c. (fate-of later.future later.is_future c).0 in
        let made = future-model laws s space later.future later.installable.members ⊥ fate seen clauses are in
        record {
          values = made.values;
          one_each = made.one_each;
          model = made.model;
          true_meanings = one-true (IsTrueMeaning s made.values) (Present n)
              (made.holds (Present n) (slice_get_within s.repository.packages n p is)
              (at-has (λ (q : Package). Contains later.installable.members q) s.repository.packages n p is later.installable.holds));
        }

    model-at : (n : ℕ) (p : Package) → slice_get s.repository.packages n ≡ Some p → (c k m : ℕ) (q : Package) → IsIn s.clusters.members c m
        → slice_get s.repository.packages m ≡ Some q
        → (version : List ℕ) → IsOfClassAt (cluster_classes s c) k version → IsInstallableAt s.essential s.repository q version p
        → HasModelWith s clauses (Present n ∷ At c k ∷ [])
    model-at n p is c k m q is_in is_q version class later =
        let seen = seen-by later.future later.installable.members later.is_future later.installable.healthy in
        let fate : ℕ → Option ℕ = λ x. (fate-of later.future later.is_future x).0 in
        let made = future-model laws s space later.future later.installable.members ⊥ fate seen clauses are in
        let at : slice_index s.cluster_of m ≡ c = placed-in s space.frame c m is_in in
        let has = has-cluster s space.frame m (slice_get_within s.repository.packages m q is_q) in
        let short : c < length s.clusters.members = subst (λ (x : ℕ). x < length s.clusters.members) at has.within in
        let here = later.holds q (in-cluster m m q q is_q is_q refl) in
        let x : Package = here.1 in
        let there : Contains later.future x = (here.0, here.2, here.3) in
        let fates = (fate-of later.future later.is_future c).1 short in
        let fate_is : fate c ≡ Some k = elim (option-cases (fate c)) [
          | inl none ↦
              let stays : IsFate s later.future c None = subst (IsFate s later.future c) none fates in
              let same : x ≡ q = stays m q x is_q at there here.4.0 in
              let equal : version_cmp version q.version ≡ Equal = equal-back q.version version
              (subst (λ (y : Package). version_cmp y.version version ≡ Equal) same here.4.1) in
              absurd (never-at laws s space.frame m k q is_q (subst (λ (y : ℕ). IsOfClassAt (cluster_classes s y) k q.version) (sym at)
              (class_at-same (cluster_classes s c) k version q.version equal class)))
          | inr some ↦
              let moves : IsFate s later.future c (Some some.0) = subst (IsFate s later.future c) some.1 fates in
              let its = (moves m q x is_q at there here.4.0).1 in
              some.1 ∙ ap (λ (y : ℕ). Some y) (one-class laws s space.frame c some.0 k version short
              (class_at-same (cluster_classes s c) some.0 x.version version here.4.1 its) class)
        ] in
        record {
          values = made.values;
          one_each = made.one_each;
          model = made.model;
          true_meanings = two-true (IsTrueMeaning s made.values) (Present n) (At c k)
              (made.holds (Present n) (slice_get_within s.repository.packages n p is)
              (at-has (λ (y : Package). Contains later.installable.members y) s.repository.packages n p is later.installable.holds))
              (made.holds (At c k) (within-from (λ class. IsOfClass class version) (cluster_classes s c) k class) fate_is);
        }

    model-today : (n : ℕ) (p : Package) → slice_get s.repository.packages n ≡ Some p → IsInstallable s.essential s.repository p
        → HasModelWith s clauses (Now ∷ Present n ∷ [])
    model-today n p is today =
        let seen = seen-today today.members today.healthy in
        let made = future-model laws s space s.repository.packages today.members (Unit {0}) (λ c. None) seen clauses are in
        record {
          values = made.values;
          one_each = made.one_each;
          model = made.model;
          true_meanings = two-true (IsTrueMeaning s made.values) Now (Present n)
              (made.holds Now tt tt)
              (made.holds (Present n) (slice_get_within s.repository.packages n p is)
              (at-has (λ (y : Package). Contains today.members y) s.repository.packages n p is today.holds));
        }

    -- ---- from a model to a future

    abbrev example_version : ℕ → ℕ → List ℕ
    example_version c k = example_at (cluster_classes s c) k

    later-model : (n : ℕ) (p : Package) → slice_get s.repository.packages n ≡ Some p → HasModelWith s clauses (Present n ∷ [])
        → IsInstallableLater s.essential s.repository p
    later-model n p is has =
        let holds : Meaning → Bool = λ m. value_of has.values (variable_of s m) in
        let met = met-from-model s has.values clauses are has.model in
        let present : holds (Present n) ≡ true = All-head (IsTrueMeaning s has.values) (Present n) [] has.true_meanings in
        record {
          future = future_of s holds example_version;
          is_future = future-is laws s space holds example_version space.frame.examples met.future;
          installable = record {
            members = installation_of s holds example_version;
            healthy = healthy-is laws s space holds example_version space.frame.examples met.future met;
            holds = old-member laws s space holds example_version space.frame.examples met.future n p is present;
          };
        }

    today-model : (n : ℕ) (p : Package) → slice_get s.repository.packages n ≡ Some p → HasModelWith s clauses (Now ∷ Present n ∷ [])
        → IsInstallable s.essential s.repository p
    today-model n p is has =
        let holds : Meaning → Bool = λ m. value_of has.values (variable_of s m) in
        let met = met-from-model s has.values clauses are has.model in
        let now : holds Now ≡ true = All-head (IsTrueMeaning s has.values) Now (Present n ∷ []) has.true_meanings in
        let present : holds (Present n) ≡ true = All-head (IsTrueMeaning s has.values) (Present n) []
        (All-tail (IsTrueMeaning s has.values) Now (Present n ∷ []) has.true_meanings) in
        record {
          members = installation_of s holds example_version;
          healthy = today-is laws s space holds example_version space.frame.examples met.future met now;
          holds = old-member laws s space holds example_version space.frame.examples met.future n p is present;
        }

    -- the version that is asked for at one class, and examples at the others
    taken : {P : Type 0} → IsDecided P → List ℕ → List ℕ → List ℕ
    taken (inl p) version example = version
    taken (inr other) version example = example

    taken-is : {P : Type 0} (d : IsDecided P) (version example : List ℕ) → P → taken d version example ≡ version
    unfolding taken
    taken-is (inl p) version example holds = refl
    taken-is (inr other) version example holds = absurd (other holds)

    module _ (c k : ℕ) (version : List ℕ) where
      is-asked : (d l : ℕ) → IsDecided ((d ≡ c) × (l ≡ k))
      is-asked d l = both-decided (number-decided d c) (number-decided l k)

      version_for : ℕ → ℕ → List ℕ
      version_for d l = taken (is-asked d l) version (example_at (cluster_classes s d) l)

      of-taken : (d l : ℕ) (o : IsDecided ((d ≡ c) × (l ≡ k))) → IsVersion version → IsOfClassAt (cluster_classes s c) k version
          → l < length (cluster_classes s d)
          → IsVersion (taken o version (example_at (cluster_classes s d) l))
          × IsOfClassAt (cluster_classes s d) l (taken o version (example_at (cluster_classes s d) l))
      unfolding taken
      of-taken d l (inl same) is class short = (
        is,
        subst (λ (x : ℕ). IsOfClassAt (cluster_classes s x) l version) (sym same.0)
            (subst (λ (x : ℕ). IsOfClassAt (cluster_classes s c) x version) (sym same.1) class),
      )
      of-taken d l (inr other) is class short = space.frame.examples d l short

      are-versions : IsVersion version → IsOfClassAt (cluster_classes s c) k version → AreVersions s version_for
      unfolding version_for
      are-versions is class d l short = of-taken d l (is-asked d l) is class short

      version-asked : version_for c k ≡ version
      unfolding version_for
      version-asked = taken-is (is-asked c k) version (example_at (cluster_classes s c) k) (refl, refl)

      at-model : (n : ℕ) (p : Package) → slice_get s.repository.packages n ≡ Some p → (m : ℕ) (q : Package) → IsIn s.clusters.members c m
          → slice_get s.repository.packages m ≡ Some q
          → IsVersion version → IsOfClassAt (cluster_classes s c) k version → HasModelWith s clauses (Present n ∷ At c k ∷ [])
          → IsInstallableAt s.essential s.repository q version p
      at-model n p is m q is_in is_q is_version class has =
          let holds : Meaning → Bool = λ x. value_of has.values (variable_of s x) in
          let met = met-from-model s has.values clauses are has.model in
          let versions = are-versions is_version class in
          let present : holds (Present n) ≡ true = All-head (IsTrueMeaning s has.values) (Present n) (At c k ∷ []) has.true_meanings in
          let at : holds (At c k) ≡ true = All-head (IsTrueMeaning s has.values) (At c k) []
          (All-tail (IsTrueMeaning s has.values) (Present n) (At c k ∷ []) has.true_meanings) in
          let short = within-from (λ x. IsOfClass x version) (cluster_classes s c) k class in
          record {
            future = future_of s holds version_for;
            is_future = future-is laws s space holds version_for versions met.future;
            holds = subst (λ (v : List ℕ). HoldsCluster s.repository (future_of s holds version_for) q v) version-asked
                (holds-cluster laws s space holds version_for versions met.future c k m q (placed-in s space.frame c m is_in) is_q short at);
            installable = record {
              members = installation_of s holds version_for;
              healthy = healthy-is laws s space holds version_for versions met.future met;
              holds = old-member laws s space holds version_for versions met.future n p is present;
            };
          }

    pub stand-for-futures : StandForFutures s clauses
    stand-for-futures = record {
      later = λ n p is. (later-model n p is, model-later n p is);
      at_version = λ n p is c k m q is_in is_q version is_version class.
          (at-model c k version n p is m q is_in is_q is_version class, model-at n p is c k m q is_in is_q version class);
      today = λ n p is. (today-model n p is, model-today n p is);
    }

    pub stands-for-future : (values : List Bool) → IsModel (value_of values) clauses → StandsForFuture s values
    stands-for-future values model =
        let met = met-from-model s values clauses are model in
        record {
          is_future = future-is laws s space (holds_under s values) (examples_of s) space.frame.examples met.future;
          healthy = healthy-is laws s space (holds_under s values) (examples_of s) space.frame.examples met.future met;
        }
