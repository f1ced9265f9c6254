-- Clusters that have moved in a future, and clusters that are at a class in a model.
use Rattle.std.proofs.Common.{◌≡◌, ℕ, ◌<◌, Bool, true, List, [], Option, Some, None, length, get_or, refl, sym, ap, subst, ◌∙◌, inl, inr, slice_get}
use Rattle.std.specs.Prelude.{Any, Contains, slice_index}
use Rattle.std.proofs.lemmas.Option.{slice_get-get_or, slice_get_within}
use Rattle.dist_base.specs.ListLaws.{any-contained, any-there, at-has, contains-at, element-at, element-is, has-at, some-element}
use Rattle.dist_clause.specs.Formula.{Literal, IsModel, value_of}
use Rattle.dist_classes.specs.ClassList.{IsOfClassAt}
use Rattle.dist_cluster.specs.Partition.{IsIn}
use Rattle.dist_repo.specs.DecidedLaws.{IsDecided, any-decided, at-decided, both-decided, not-decided, text-decided}
use Rattle.dist_repo.specs.PackageList.{IsPackageAnd}
use Rattle.dist_repo.specs.declared.package.Package.{Package}
use Rattle.dist_future.specs.Future.{IsFuture}
use Rattle.dist_future.specs.Moved.{AreHeld, HasModelFor, IsAtClass, IsMoved, IsReplaced, TellOfMoves}
use Rattle.dist_future.specs.Outdated.{IsInstallationOf}
use Rattle.dist_future.specs.SpaceLaws.{examples_of, future_under, holds_under}
use Rattle.dist_future.specs.Stands.{class_chosen, moved_package, new_version}
use Rattle.dist_space.specs.ClusterLaws.{in-package, placed-in}
use Rattle.dist_space.specs.Space.{IsSpace, SpaceView, cluster_classes}
use Rattle.dist_space.specs.declared.meaning.Meaning.TheVariants.{Present, At}
use Rattle.dist_space_clauses.specs.SpaceClauses.{AreSpaceClauses}
use Rattle.dist_future.proofs.ClassMatch.{ClassLaws}
use Rattle.dist_future.proofs.DemandLemmas.{met-from-model}
use Rattle.dist_future.proofs.FutureToModel.{IsFate, IsSeen, option-cases}
use Rattle.dist_future.proofs.FutureValues.{contains-decided, future-model}
use Rattle.dist_future.proofs.ModelToFuture.{chosen-is, chosen-short, class-of-new, in-future, named-later, old-member}
use Rattle.dist_future.proofs.SpaceLemmas.{in-its-cluster, never-at, one-of-name}
use Rattle.dist_future.proofs.SpaceMeaning.{fate-of}

module _ (laws : ClassLaws) (s : SpaceView) (space : IsSpace s) where
  -- ---- clusters that have moved

  replaced-decided : (future : List Package) (q : Package) → IsDecided (IsReplaced s.repository future q)
  replaced-decided future q = any-decided (λ n. (n.name ≡ q.name) × (¬ Contains s.repository.packages n))
      (λ n. both-decided (text-decided n.name q.name) (not-decided (contains-decided s.repository.packages n))) future

  moved-decided : (future : List Package) (c : ℕ) → IsDecided (IsMoved s future c)
  moved-decided future c = at-decided (λ members. Any (λ m. IsPackageAnd s.repository.packages m (IsReplaced s.repository future)) members)
      (λ members. any-decided (λ m. IsPackageAnd s.repository.packages m (IsReplaced s.repository future))
      (λ m. at-decided (IsReplaced s.repository future) (replaced-decided future) s.repository.packages m) members) s.clusters.members c

  -- a member of a cluster that is replaced
  moved-from : (future : List Package) (c m : ℕ) (q : Package) → IsIn s.clusters.members c m → slice_get s.repository.packages m ≡ Some q
      → IsReplaced s.repository future q → IsMoved s future c
  moved-from future c m q is_in is replaced =
      let Replaced : ℕ → Type 0 = λ k. IsPackageAnd s.repository.packages k (IsReplaced s.repository future) in
      let Has : List ℕ → Type 0 = λ members. Contains members m in
      let members = some-element Has s.clusters.members c is_in in
      let is_members = element-is Has s.clusters.members c is_in in
      at-has (λ (ms : List ℕ). Any Replaced ms) s.clusters.members c members is_members
      (any-contained Replaced members m (has-at Has s.clusters.members c members is_members is_in)
      (at-has (IsReplaced s.repository future) s.repository.packages m q is replaced))

  -- the member that is replaced, and the package that replaces it
  record MovedBy (future : List Package) (c : ℕ) : Type 0 where
    member : ℕ
    is_in : IsIn s.clusters.members c member
    old : Package
    is_old : slice_get s.repository.packages member ≡ Some old
    replaced : IsReplaced s.repository future old

  moved-by : (future : List Package) (c : ℕ) → IsMoved s future c → MovedBy future c
  moved-by future c moved =
      let Replaced : ℕ → Type 0 = λ k. IsPackageAnd s.repository.packages k (IsReplaced s.repository future) in
      let AnyOf : List ℕ → Type 0 = λ members. Any Replaced members in
      let members = some-element AnyOf s.clusters.members c moved in
      let is_members = element-is AnyOf s.clusters.members c moved in
      let any = has-at AnyOf s.clusters.members c members is_members moved in
      let q = some-element (IsReplaced s.repository future) s.repository.packages any.1 any.4 in
      let is_q = element-is (IsReplaced s.repository future) s.repository.packages any.1 any.4 in
      record {
        member = any.1;
        is_in = at-has (λ (ms : List ℕ). Contains ms any.1) s.clusters.members c members is_members (any-there Replaced members any);
        old = q;
        is_old = is_q;
        replaced = has-at (IsReplaced s.repository future) s.repository.packages any.1 q is_q any.4;
      }

  -- ---- from a future to a model

  module _ (future : List Package) (is_future : IsFuture s.repository future) where
    -- the class of a cluster that has moved; one that has not stays
    fate : (c : ℕ) → IsDecided (IsMoved s future c) → Option ℕ
    fate c (inl moved) = (fate-of laws s space future is_future c).0
    fate c (inr still) = None

    unmoved-stays : (c : ℕ) → ¬ IsMoved s future c → IsFate s future c None
    unmoved-stays c still m q n is same there name = elim (contains-decided s.repository.packages n) [
      | inl own ↦ one-of-name s.repository.packages n q space.frame.flat own (contains-at s.repository.packages m q is) name
      | inr other ↦
          let at = in-its-cluster s space.frame m (slice_get_within s.repository.packages m q is) in
          let inside : IsIn s.clusters.members c m = subst (λ (x : ℕ). IsIn s.clusters.members x m) same at in
          absurd (still (moved-from future c m q inside is
          (any-contained (λ (x : Package). (x.name ≡ q.name) × (¬ Contains s.repository.packages x)) future n there (name, other))))
    ]

    fate-is : (c : ℕ) (decided : IsDecided (IsMoved s future c)) → c < length s.clusters.members → IsFate s future c (fate c decided)
    unfolding fate
    fate-is c (inl moved) short = (fate-of laws s space future is_future c).1 short
    fate-is c (inr still) short = unmoved-stays c still

    fate-moved : (c k : ℕ) (decided : IsDecided (IsMoved s future c)) → fate c decided ≡ Some k → IsMoved s future c
    unfolding fate
    fate-moved c k (inl moved) is = moved
    fate-moved c k (inr still) is = cc

    its-fate : ℕ → Option ℕ
    its-fate c = fate c (moved-decided future c)

    seen : (members : List Package) → IsInstallationOf s.essential s.repository future members → IsSeen s future members ⊥ its-fate
    unfolding its-fate
    seen members healthy = record {
      flat = is_future.one_of_a_name;
      healthy = healthy;
      fates = λ c short. fate-is c (moved-decided future c) short;
      fresh = is_future.fresh;
      now = inr (λ h. h);
      now_stays = λ h c. absurd h;
      now_taken = λ h n there. absurd h;
    }

    model-for : (members : List Package) → IsInstallationOf s.essential s.repository future members → (clauses : List (List Literal))
        → AreSpaceClauses s clauses → HasModelFor s clauses future members
    unfolding its-fate
    model-for members healthy clauses are =
        let made = future-model laws s space future members ⊥ its-fate (seen members healthy) clauses are in
        record {
          values = made.values;
          one_each = made.one_each;
          model = made.model;
          present = λ n p is there. made.holds (Present n) (slice_get_within s.repository.packages n p is)
              (at-has (λ (q : Package). Contains members q) s.repository.packages n p is there);
          moved = λ c at. fate-moved c at.0 (moved-decided future c) (made.only (At c at.0) at.1 at.2);
        }

  -- ---- from a model to a future

  module _ (clauses : List (List Literal)) (are : AreSpaceClauses s clauses) (values : List Bool) (model : IsModel (value_of values) clauses) where
    at-moved : (c : ℕ) → c < length s.clusters.members → IsAtClass s values c → IsMoved s (future_under s values) c
    at-moved c short at =
        let holds = holds_under s values in
        let version = examples_of s in
        let met = met-from-model s values clauses are model in
        let first = element-at (get_or s.clusters.members c []) 0 (space.frame.clusters.partition.some c [] short) in
        let there = contains-at (get_or s.clusters.members c []) 0 first.element first.is in
        let p = in-package s space.frame c first.element short there in
        let is_in : IsIn s.clusters.members c first.element =
        at-has (λ (cluster : List ℕ). Contains cluster first.element) s.clusters.members c (get_or s.clusters.members c [])
        (slice_get-get_or s.clusters.members c [] short) there in
        let same : slice_index s.cluster_of first.element ≡ c = placed-in s space.frame c first.element is_in in
        let k = at.0 in
        let chosen : class_chosen s holds (slice_index s.cluster_of first.element) ≡ Some k =
        ap (class_chosen s holds) same ∙ chosen-is laws s space holds version space.frame.examples met.future c k at.1 at.2 in
        let n = new_version s holds version first.element k p.package_is in
        let new : Contains (future_under s values) n =
        subst (λ (x : Package). Contains (future_under s values) x) (ap (moved_package s holds version first.element p.package_is) chosen)
        (in-future laws s space holds version space.frame.examples met.future first.element p.package_is p.is) in
        let here : k < length (cluster_classes s (slice_index s.cluster_of first.element)) =
        subst (λ (x : ℕ). k < length (cluster_classes s x)) (sym same) at.1 in
        let class = class-of-new laws s space holds version space.frame.examples met.future first.element k p.package_is here in
        let other : ¬ Contains s.repository.packages n = λ own.
        let one = one-of-name s.repository.packages n p.package_is space.frame.flat own
        (contains-at s.repository.packages first.element p.package_is p.is) refl in
        never-at laws s space.frame first.element k p.package_is p.is
        (subst (λ (x : Package). IsOfClassAt (cluster_classes s (slice_index s.cluster_of first.element)) k x.version) one class) in
        moved-from (future_under s values) c first.element p.package_is is_in p.is
        (any-contained (λ (x : Package). (x.name ≡ p.package_is.name) × (¬ Contains s.repository.packages x)) (future_under s values) n new (refl, other))

    moved-at : (c : ℕ) → IsMoved s (future_under s values) c → IsAtClass s values c
    moved-at c moved =
        let holds = holds_under s values in
        let version = examples_of s in
        let met = met-from-model s values clauses are model in
        let by = moved-by (future_under s values) c moved in
        let any = by.replaced in
        let there = any-there (λ (x : Package). (x.name ≡ by.old.name) × (¬ Contains s.repository.packages x)) (future_under s values) any in
        let is = named-later laws s space holds version space.frame.examples met.future by.member by.old any.1 by.is_old there any.4.0 in
        let same : slice_index s.cluster_of by.member ≡ c = placed-in s space.frame c by.member by.is_in in
        let own = contains-at s.repository.packages by.member by.old by.is_old in
        elim (option-cases (class_chosen s holds (slice_index s.cluster_of by.member))) [
          | inl none ↦
              let itself : any.1 ≡ by.old = is ∙ ap (moved_package s holds version by.member by.old) none in
              absurd (any.4.1 (subst (Contains s.repository.packages) (sym itself) own))
          | inr some ↦
              let at = chosen-short laws s space holds version space.frame.examples met.future c some.0 (ap (class_chosen s holds) (sym same) ∙ some.1) in
              (some.0, at.0, at.1)
        ]

    held-at : (c k : ℕ) → k < length (cluster_classes s c) → holds_under s values (At c k) ≡ true → AreHeld s (future_under s values) c (examples_of s c k)
    held-at c k short at m q is_in is =
        let holds = holds_under s values in
        let version = examples_of s in
        let met = met-from-model s values clauses are model in
        let same : slice_index s.cluster_of m ≡ c = placed-in s space.frame c m is_in in
        let chosen : class_chosen s holds (slice_index s.cluster_of m) ≡ Some k =
        ap (class_chosen s holds) same ∙ chosen-is laws s space holds version space.frame.examples met.future c k short at in
        let n = new_version s holds version m k q in
        let new : Contains (future_under s values) n =
        subst (λ (x : Package). Contains (future_under s values) x) (ap (moved_package s holds version m q) chosen)
        (in-future laws s space holds version space.frame.examples met.future m q is) in
        any-contained (λ (x : Package). (x.name ≡ q.name) × (x.version ≡ examples_of s c k)) (future_under s values) n new
        (refl, ap (λ (x : ℕ). examples_of s x k) same)

  pub tell-of-moves : (clauses : List (List Literal)) → AreSpaceClauses s clauses → TellOfMoves s clauses
  tell-of-moves clauses are = record {
    there = λ future members is_future healthy. model-for future is_future members healthy clauses are;
    member = λ values model n p is holds.
        let met = met-from-model s values clauses are model in
        old-member laws s space (holds_under s values) (examples_of s) space.frame.examples met.future n p is holds;
    at_class = λ values model c k short at. held-at clauses are values model c k short at;
    exact = λ values model c short. (moved-at clauses are values model c, at-moved clauses are values model c short);
  }
