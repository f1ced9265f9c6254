-- The relations between the packages of a repository: what its demands are at mode plain, and which of them a set of
-- packages fails.
use Rattle.std.specs.Prelude.{◌≡◌, ◌↔◌, false, ℕ, Bool, List, All, AllPairs, Any, Contains, Some, length, slice_get}
use Rattle.std.specs.Prelude.{IsSomeAnd}
use Rattle.dist_clause.specs.Formula.{Literal, IsTrueLiteral, MakesTrue, value_of}
use Rattle.dist_repo.specs.Healthy.{IsMet}
use Rattle.dist_repo.specs.PackageList.{PackageList, IsPackageAnd}
use Rattle.dist_repo.specs.Strong.{IsInstallation}
use Rattle.dist_repo.specs.declared.package.Package.{Package}
use Rattle.dist_now.specs.Members.{members_of}
use Rattle.dist_now.specs.PresentClauses.{Demand, Item, Apart, Required, IsBefore, IsClauseFor}
use Rattle.dist_now.specs.PresentClauses.{IsDemand, IsItemAnd, installed}
use Rattle.dist_now.specs.PresentLaws.{AreSamePackages, HasNoRepeats}

-- The demands at mode plain, each once, in their order: items, and then pairs of packages that must be apart.
pub record AreRelations (r : PackageList) (relations : List Demand) : Type 0 where
  pub in_order : AllPairs IsBefore relations
  pub exact : (d : Demand) → Contains relations d ↔ IsDemand r false d

-- The packages fail an item where its package is one of them and none of them matches an alternative, two packages that
-- must be apart where both are among them, and a required name where none of them has it.
abbrev pub Fails : PackageList → List Package → Demand → Type 0
Fails r members (Item number place) =
    IsItemAnd r number place (λ p item. Contains members p × (¬ IsMet r.architecture members item))
Fails r members (Apart first second) = IsPackageAnd r.packages first
    (λ p. IsPackageAnd r.packages second (λ q. Contains members p × Contains members q))
Fails r members (Required name) = ¬ Any (λ p. p.name ≡ name) members

-- packages of the repository
abbrev pub AreOf : PackageList → List Package → Type 0
AreOf r members = All (Contains r.packages) members

-- ---- what is told of it

-- The packages whose values are true are packages of the repository: those whose variables are true.
pub record AreMembersByValues (r : PackageList) (values : List Bool) : Type 0 where
  pub of : AreOf r (members_of r.packages values)
  pub exact : (number : ℕ) (p : Package) → slice_get r.packages number ≡ Some p
      → Contains (members_of r.packages values) p ↔ IsTrueLiteral (value_of values) (installed number)

-- Packages of the repository, each once, are a healthy installation at mode plain exactly where they fail no demand.
abbrev pub IsHealthyByDemands : PackageList → List Package → Type 0
IsHealthyByDemands r members = IsInstallation false r members
    ↔ (AreOf r members × HasNoRepeats members × ((d : Demand) → IsDemand r false d → ¬ Fails r members d))

-- A demand's clause is true exactly where the packages whose values are true don't fail it.
abbrev pub IsTrueByDemand : PackageList → Demand → List Literal → List Bool → Type 0
IsTrueByDemand r d clause values =
    MakesTrue (value_of values) clause ↔ (¬ Fails r (members_of r.packages values) d)

-- truth values, one for each package, under which exactly these packages are true
pub record AreValuesOf (r : PackageList) (members : List Package) (values : List Bool) : Type 0 where
  pub one_each : length values ≡ length r.packages
  pub same : AreSamePackages members (members_of r.packages values)

-- each clause is that of the relation at its place
pub record HaveClauses (r : PackageList) (relations : List Demand) (clauses : List (List Literal)) : Type 0 where
  pub one_each : length clauses ≡ length relations
  pub each : (place : ℕ) (clause : List Literal) → slice_get clauses place ≡ Some clause
      → IsSomeAnd (slice_get relations place) (λ d. IsClauseFor r d clause)
