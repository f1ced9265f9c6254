-- What the clauses of the present mean.
use Rattle.std.specs.Prelude.{◌≡◌, ◌≢◌, ◌↔◌, Bool, List, AllPairs, Contains, length}
use Rattle.dist_base.specs.RowLaws.{Continues}
use Rattle.dist_clause.specs.Formula.{Literal, IsModel, value_of}
use Rattle.dist_repo.specs.PackageList.{PackageList}
use Rattle.dist_repo.specs.Strong.{IsInstallation}
use Rattle.dist_repo.specs.declared.package.Package.{Package}
use Rattle.dist_now.specs.Members.{members_of}

-- lists of the same packages
abbrev pub AreSamePackages : (members others : List Package) → Type 0
AreSamePackages members others = (p : Package) → Contains members p ↔ Contains others p

-- a model of the clauses: one truth value for each package
pub record IsModelOf (r : PackageList) (clauses : List (List Literal)) (values : List Bool) : Type 0 where
  pub one_each : length values ≡ length r.packages
  pub model : IsModel (value_of values) clauses

-- The models of the clauses are exactly the healthy installations.
pub record AreModelsInstallations (r : PackageList) (essential : Bool) (clauses : List (List Literal)) : Type 0 where
  pub healthy : (values : List Bool) → IsModelOf r clauses values
      → IsInstallation essential r (members_of r.packages values)
  pub all : (members : List Package) → IsInstallation essential r members
      → (values : List Bool) × IsModelOf r clauses values × AreSamePackages members (members_of r.packages values)

-- the list goes on with the clause behind its front
abbrev pub GoesOn : (whole front : List (List Literal)) → List Literal → Type 0
GoesOn = Continues

-- No package stands twice.
abbrev pub HasNoRepeats : List Package → Type 0
HasNoRepeats members = AllPairs (λ p q. p ≢ q) members
