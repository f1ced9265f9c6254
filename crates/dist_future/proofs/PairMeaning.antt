-- What the models of a space's clauses say of outdated packages, of pairs of a cluster and a class, and of challenges.
use Rattle.std.proofs.Common.{◌≡◌, ◌↔◌, ℕ, Bool, true, List, [], ◌∷◌, Some, slice_get}
use Rattle.std.proofs.lemmas.Option.{slice_get_within}
use Rattle.dist_base.specs.ListLaws.{contains-at, within-from}
use Rattle.dist_clause.specs.Formula.{Literal, IsModel, value_of}
use Rattle.dist_cluster.specs.Partition.{IsIn}
use Rattle.dist_repo.specs.declared.package.Package.{Package}
use Rattle.dist_classes.specs.ClassList.{IsOfClass}
use Rattle.dist_space.specs.Space.{IsSpace, SpaceView, cluster_classes}
use Rattle.dist_space_clauses.specs.SpaceClauses.{AreSpaceClauses}
use Rattle.dist_space.specs.declared.meaning.Meaning.TheVariants.{Now, Present, At}
use Rattle.dist_future.specs.FutureHealth.{Holds}
use Rattle.dist_future.specs.Outdated.{Challenges, IsInstallableAt, IsOutdated}
use Rattle.dist_future.specs.Pairs.{Covers, IsOfPair, TellOfPackage}
use Rattle.dist_future.specs.SpaceLaws.{HasModelWith, StandForFutures, holds_under}
use Rattle.dist_future.proofs.ClassMatch.{ClassLaws}
use Rattle.dist_future.proofs.SpaceLemmas.{above-cluster, cluster-has}
use Rattle.dist_future.proofs.SpaceMeaning.{stand-for-futures}
use Rattle.dist_future.proofs.UnusedClusters.{covered-model}

module _ (laws : ClassLaws) (s : SpaceView) (space : IsSpace s) (clauses : List (List Literal)) (are : AreSpaceClauses s clauses) (n : ℕ) (p : Package)
    (is : slice_get s.repository.packages n ≡ Some p) where
  stand : StandForFutures s clauses
  stand = stand-for-futures laws s space clauses are

  -- a version of the pair's class
  at-pair : (c k : ℕ) (q : Package) (version : List ℕ) → IsOfPair s c k q version
      → HasModelWith s clauses (Present n ∷ At c k ∷ []) ↔ IsInstallableAt s.essential s.repository q version p
  at-pair c k q version of = stand.at_version n p is c k of.member q of.in_cluster of.is version of.is_version of.of_class

  outdated : IsOutdated s.essential s.repository p ↔ (¬ HasModelWith s clauses (Present n ∷ []))
  outdated = (
    λ old has. old.never ((stand.later n p is).0 has),
    λ none. record { there = contains-at s.repository.packages n p is; never = λ later. none ((stand.later n p is).1 later) },
  )

  challenged : (c k : ℕ) (q : Package) (version : List ℕ) → IsOfPair s c k q version → ¬ IsIn s.clusters.members c n
      → Challenges s.essential s.repository q version p
      ↔ (HasModelWith s clauses (Now ∷ Present n ∷ []) × (¬ HasModelWith s clauses (Present n ∷ At c k ∷ [])))
  challenged c k q version of outside = (
    λ challenges. (
      (stand.today n p is).1 challenges.installable,
      λ has. challenges.never ((at-pair c k q version of).0 has),
    ),
    λ told. record {
      cluster = contains-at s.repository.packages of.member q of.is;
      package_there = contains-at s.repository.packages n p is;
      outside = λ clustered. outside (cluster-has s space.frame c of.member n q p of.in_cluster of.is is clustered);
      above = above-cluster laws s space.frame c k of.member q version of.in_cluster of.is of.is_version of.of_class;
      installable = (stand.today n p is).0 told.0;
      never = λ later. told.1 ((at-pair c k q version of).1 later);
    },
  )

  covered : (c k : ℕ) (q : Package) (version : List ℕ) → IsOfPair s c k q version → (values : List Bool) → IsModel (value_of values) clauses
      → holds_under s values (Present n) ≡ true → Covers s values c k → IsInstallableAt s.essential s.repository q version p
  covered c k q version of values model present covers =
      let is_pair = within-from (λ class. IsOfClass class version) (cluster_classes s c) k of.of_class in
      let holds : Holds s values (Present n) = record { is_meaning = slice_get_within s.repository.packages n p is; is_true = present } in
      (at-pair c k q version of).0 (covered-model s space values c k clauses are n model holds is_pair covers)

  pub tell-of-package : TellOfPackage s clauses n p
  tell-of-package = record { outdated = outdated; challenged = challenged; covered = covered }
