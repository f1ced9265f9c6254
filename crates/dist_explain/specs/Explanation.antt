-- Explanations: relations of a repository that suffice to keep a package from being installed, and which of them are
-- needed. Such relations are an unsatisfiable core of what an installation must meet (as in the literature on minimal
-- unsatisfiable subsets); where each is needed, none can be left out.
use Rattle.std.specs.Prelude.{◌≡◌, ◌≢◌, ◌⊎◌, ℕ, ◌+◌, List, All, Any, Contains, Some, slice_get}
use Rattle.dist_repo.specs.PackageList.{PackageList, IsPackageAnd}
use Rattle.dist_repo.specs.declared.package.Package.{Package}
use Rattle.dist_now.specs.PresentClauses.{Demand, Item, Apart, Required, IsItemAnd, IsMetBy}
use Rattle.dist_now.specs.Relations.{AreOf, Fails}

-- the relation of a number, where the first has the number 1
abbrev pub IsRelation : (relations : List Demand) → (number : ℕ) → Demand → Type 0
IsRelation relations number d = (place : ℕ) × (number ≡ place + 1) × (slice_get relations place ≡ Some d)

-- the packages fail the relation of a number
abbrev pub FailsNumber : PackageList → (relations : List Demand) → List Package → (number : ℕ) → Type 0
FailsNumber r relations members number = (d : Demand) × IsRelation relations number d × Fails r members d

-- Relations, by their numbers, explain a package: any packages of the repository that have it among them fail one of
-- these relations.
abbrev pub Explain : PackageList → (relations : List Demand) → Package → (numbers : List ℕ) → Type 0
Explain r relations p numbers = (members : List Package) → AreOf r members → Contains members p
    → Any (FailsNumber r relations members) numbers

-- Of some relations one is needed: some packages that have the package among them fail this one and no other of them.
pub record IsNeeded (r : PackageList) (relations : List Demand) (p : Package) (numbers : List ℕ) (number : ℕ) : Type 0
  where
    pub members : List Package
    pub of : AreOf r members
    pub has : Contains members p
    pub fails : FailsNumber r relations members number
    pub no_other : All (λ other. other ≢ number → ¬ FailsNumber r relations members other) numbers

-- ---- how relations hang together

-- the relation of a number has a property
abbrev pub IsOfNumber : (relations : List Demand) → (Demand → Type 0) → (number : ℕ) → Type 0
IsOfNumber relations P number = (d : Demand) × IsRelation relations number d × P d

-- the relation is on the package of a number, from 0: an item of its dependencies, or that it is apart from another
abbrev pub IsOn : ℕ → Demand → Type 0
IsOn n (Item number place) = number ≡ n
IsOn n (Apart first second) = (first ≡ n) ⊎ (second ≡ n)
IsOn n (Required name) = ⊥

-- an item asks for the package of a number: one of its alternatives matches it
abbrev pub AsksFor : PackageList → ℕ → Demand → Type 0
AsksFor r n (Item number place) = IsItemAnd r number place (λ p item. IsPackageAnd r.packages n (IsMetBy r.architecture
    item))
AsksFor r n d = ⊥

-- Some of the relations that explain a package are needed. What one of these asks for, another relation is on; and what
-- one of these is on, but for the package itself, an item asks for. So the relations are a graph that can be drawn from
-- the package on, and what no line is on nothing serves.
pub record AreConnected (r : PackageList) (relations : List Demand) (p : Package) (needed numbers : List ℕ) : Type 0
  where
    pub on_each : (n : ℕ) → Any (IsOfNumber relations (AsksFor r n)) needed
        → Any (IsOfNumber relations (IsOn n)) numbers
    pub asks_for_each : (n : ℕ) (q : Package) → slice_get r.packages n ≡ Some q → q ≢ p
        → Any (IsOfNumber relations (IsOn n)) needed → Any (IsOfNumber relations (AsksFor r n)) numbers
