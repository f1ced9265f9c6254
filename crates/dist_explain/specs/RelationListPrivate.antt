-- Serves private contracts: the way to the list of relations.
use Rattle.std.specs.Prelude.{◌≡◌, ◌↔◌, ◌<◌, ℕ, false, List, AllPairs, Contains, map}
use Rattle.std.specs.List.Sorted.{IsStrictlyIncreasing}
use Rattle.dist_repo.specs.PackageList.{PackageList, IsPackageAnd}
use Rattle.dist_now.specs.PresentClauses.{Apart, Demand, IsBefore, IsDemand}
use Rattle.dist_explain.specs.RelationList.{demand_of}
use Rattle.dist_explain.specs.declared.relations.Relation.{Relation}
use Rattle.dist_explain.specs.declared.relations.Relation.TheVariants as relation

-- the relations before a demand, in their order
pub record AreListedBefore (r : PackageList) (d : Demand) (list : List Relation) : Type 0 where
  pub in_order : AllPairs IsBefore (map demand_of list)
  pub exact : (e : Demand) → Contains (map demand_of list) e ↔ (IsDemand r false e × IsBefore e d)

-- the numbers of the packages that one must be apart from, of those behind it
pub record AreApart (r : PackageList) (first : ℕ) (seconds : List ℕ) : Type 0 where
  pub rising : IsStrictlyIncreasing seconds
  pub exact : (second : ℕ) → Contains seconds second ↔ IsDemand r false (Apart first second)

-- a package behind another one has its name
abbrev pub IsNamesake : PackageList → (number other : ℕ) → Type 0
IsNamesake r number other = (number < other)
    × IsPackageAnd r.packages number (λ p. IsPackageAnd r.packages other (λ q. p.name ≡ q.name))

-- the relation that two packages must be apart
abbrev pub pair_with : ℕ → ℕ → Relation
pair_with first second = relation.Apart first second
