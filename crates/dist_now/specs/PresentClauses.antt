-- The clauses of the present, with a variable for each package: what a healthy installation must meet, a clause for
-- each demand.
use Rattle.std.specs.Prelude.{◌≡◌, ◌⊎◌, ◌↔◌, ℕ, ◌+◌, ◌<◌, Bool, true, false, List, [], ◌∷◌, Option, Any}
use Rattle.std.specs.Prelude.{Contains, IsSomeAnd, length, map, slice_get}
use Rattle.std.specs.Cmp.Lexicographic.{slice_cmp}
use Rattle.std.specs.List.Sorted.{IsStrictlyIncreasing}
use Rattle.std.specs.Ordering.{nat_cmp}
use Rattle.std.specs.declared.cmp.Ordering.TheVariants.{Less}
use Rattle.dist_clause.specs.Demands as made
use Rattle.dist_clause.specs.Demands.{Demands}
use Rattle.dist_clause.specs.Formula.{Literal, literal}
use Rattle.dist_relation.specs.declared.atom.Atom.{Atom}
use Rattle.dist_repo.specs.Conflict.{AreInConflict}
use Rattle.dist_repo.specs.Healthy.{required_names}
use Rattle.dist_repo.specs.Match.{Matches}
use Rattle.dist_repo.specs.PackageList.{PackageList, IsPackageAnd}
use Rattle.dist_repo.specs.declared.package.Package.{Package}

-- that the package of a number is installed, and that it is not: numbers start at 0, and variables at 1
abbrev pub installed : ℕ → Literal
installed number = literal (number + 1) true

abbrev pub not_installed : ℕ → Literal
not_installed number = literal (number + 1) false

-- The numbers are exactly those of the packages with a property, rising.
pub record AreNumbersOf (r : PackageList) (P : Package → Type 0) (numbers : List ℕ) : Type 0 where
  pub rising : IsStrictlyIncreasing numbers
  pub exact : (number : ℕ) → Contains numbers number ↔ IsPackageAnd r.packages number P

-- an alternative of the item matches the package
abbrev pub IsMetBy : Option (List ℕ) → List Atom → Package → Type 0
IsMetBy architecture item p = Any (λ atom. Matches architecture atom p) item

-- the item at a place of the dependencies of the package of a number has a property, which may speak of the package
abbrev pub IsItemAnd : PackageList → (number place : ℕ) → (Package → List Atom → Type 0) → Type 0
IsItemAnd r number place P = IsPackageAnd r.packages number (λ p. IsSomeAnd (slice_get p.depends place) (P p))

-- What an installation must meet: an item, by its package's number and its place; that two packages are not both
-- installed, by their numbers; and that a name is installed.
pub data Demand : Type 0 where
  Item : (number place : ℕ) → Demand
  Apart : (first second : ℕ) → Demand
  Required : (name : List ℕ) → Demand

-- The demands of a repository: each item that its own package doesn't meet, two packages of one name or in conflict,
-- and at mode essential the names of the essential packages.
abbrev pub IsDemand : PackageList → Bool → Demand → Type 0
IsDemand r essential (Item number place) = IsItemAnd r number place (λ p item. ¬ IsMetBy r.architecture item p)
IsDemand r essential (Apart first second) =
    (first < second) × IsPackageAnd r.packages first
    (λ p. IsPackageAnd r.packages second (λ q. (p.name ≡ q.name) ⊎ AreInConflict r.architecture p q))
IsDemand r essential (Required name) = Contains (required_names essential r.packages) name

-- the lesser of two pairs of numbers, by the first and then by the second
abbrev pub IsLesser : (first second n k : ℕ) → Type 0
IsLesser first second n k = (first < n) ⊎ ((first ≡ n) × (second < k))

-- Items come first, then pairs of packages, each by their two numbers, and then names, by their bytes.
abbrev pub IsBefore : Demand → Demand → Type 0
IsBefore (Item number place) (Item n k) = IsLesser number place n k
IsBefore (Item number place) (Apart n k) = Unit {0}
IsBefore (Item number place) (Required name) = Unit {0}
IsBefore (Apart first second) (Item n k) = ⊥
IsBefore (Apart first second) (Apart n k) = IsLesser first second n k
IsBefore (Apart first second) (Required name) = Unit {0}
IsBefore (Required name) (Item n k) = ⊥
IsBefore (Required name) (Apart n k) = ⊥
IsBefore (Required name) (Required other) = slice_cmp nat_cmp name other ≡ Less

-- The clause of a demand: without the package, or with one that meets the item; without the first, or without the
-- second; with a package of the name.
abbrev pub IsClauseFor : PackageList → Demand → List Literal → Type 0
IsClauseFor r (Item number place) clause =
    (numbers : List ℕ) × IsItemAnd r number place (λ p item. AreNumbersOf r (IsMetBy r.architecture item) numbers)
    × (clause ≡ not_installed number ∷ map installed numbers)
IsClauseFor r (Apart first second) clause = clause ≡ not_installed first ∷ not_installed second ∷ []
IsClauseFor r (Required name) clause = (numbers : List ℕ) × AreNumbersOf r (λ p. p.name ≡ name) numbers
    × (clause ≡ map installed numbers)

-- the demands of a repository in their order, and the clause of each
abbrev pub present_demands : PackageList → Demands Demand
present_demands r = record {
  IsBefore = IsBefore;
  IsClauseFor = IsClauseFor r;
  variables = length r.packages;
}

-- The clauses of the demands with a property: one for each demand, in the order of demands.
abbrev pub AreClausesOf : PackageList → (Demand → Type 0) → List (List Literal) → Type 0
AreClausesOf r = made.AreClausesFor (present_demands r)

-- The clauses of the present, at mode essential or plain.
abbrev pub ArePresentClauses : PackageList → Bool → List (List Literal) → Type 0
ArePresentClauses r essential = AreClausesOf r (IsDemand r essential)

-- those that stand before a demand's
abbrev pub AreClausesBefore : PackageList → Bool → Demand → List (List Literal) → Type 0
AreClausesBefore r essential d = AreClausesOf r (λ e. IsDemand r essential e × IsBefore e d)
