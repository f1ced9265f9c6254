-- What is gathered on the way to the clauses of the present.
use Rattle.std.specs.Prelude.{◌≡◌, ◌⊎◌, ◌↔◌, ℕ, ◌+◌, ◌<◌, ◌≤◌, Bool, true, false, List, Any, Contains, MatchOption}
use Rattle.std.specs.Prelude.{Option, length}
use Rattle.std.specs.Prelude.{IsSomeAnd, slice_get, slice_index_or}
use Rattle.std.specs.List.Sorted.{IsNonDecreasingBy}
use Rattle.dist_clause.specs.ClauseList.{ClauseList}
use Rattle.dist_clause.specs.declared.clause_set.PushError.{PushError}
use Rattle.dist_relation.specs.declared.atom.Atom.{Atom}
use Rattle.dist_repo.specs.Match.{Matches}
use Rattle.dist_repo.specs.PackageList.{PackageList, IsPackageAnd}
use Rattle.dist_repo.specs.declared.package.Package.{Package}
use Rattle.dist_now.specs.PresentClauses.{Demand, Item, Apart, Required, IsBefore, IsDemand}
use Rattle.dist_now.specs.PresentSet.{IsCause, IsSetOf}

-- those with a property are added to a list, in some order
abbrev pub Adds : {X : Type 0} → (old new : List X) → (X → Type 0) → Type 0
Adds {X} old new P = (x : X) → Contains new x ↔ (Contains old x ⊎ P x)

-- the alternative at a place of an item matches the package of a number
abbrev pub IsMatchedAt : PackageList → (item : List Atom) → (place number : ℕ) → Type 0
IsMatchedAt r item place number = IsSomeAnd (slice_get item place)
    (λ atom. IsPackageAnd r.packages number (Matches r.architecture atom))

-- the pair has the lesser of two different numbers first
pub record IsPairOf (n k : ℕ) (pair : ℕ × ℕ) : Type 0 where
  pub are : ((pair.0 ≡ n) × (pair.1 ≡ k)) ⊎ ((pair.0 ≡ k) × (pair.1 ≡ n))
  pub rising : pair.0 < pair.1

-- the number and that of another package with a property, the lesser one first
pub record IsPairWith (r : PackageList) (n : ℕ) (P : Package → Type 0) (pair : ℕ × ℕ) : Type 0 where
  pub other : ℕ
  pub is_pair : IsPairOf n other pair
  pub has : IsPackageAnd r.packages other P

-- the pair's first number is one of those from one number up to another
abbrev pub IsPairIn : (start end : ℕ) → ℕ × ℕ → Type 0
IsPairIn start end pair = (start ≤ pair.0) × (pair.0 < end)

-- such a pair of two numbers
abbrev pub IsPairFor : (start end number other : ℕ) → ℕ × ℕ → Type 0
IsPairFor start end number other pair = IsPairOf number other pair × IsPairIn start end pair

-- such a pair of a package and another one that has a property
pub record IsPairWithin (r : PackageList) (start end number other : ℕ) (P : Package → Type 0) (pair : ℕ × ℕ) : Type 0
  where
    pub is_pair : IsPairOf number other pair
    pub is_in : IsPairIn start end pair
    pub has : IsPackageAnd r.packages other P

-- a conflict atom of the first package matches the second
abbrev pub Rejects : PackageList → (p q : Package) → Type 0
Rejects r p q = Any (λ atom. Matches r.architecture atom q) p.conflicts

-- the pair of two packages of which one rejects the other
abbrev pub IsRejectingPair : PackageList → ℕ × ℕ → Type 0
IsRejectingPair r pair = (n : ℕ) × IsPackageAnd r.packages n (λ p. IsPairWith r n (Rejects r p) pair)

-- the pairs rise by their first numbers, and those of lesser first numbers are exactly the ones before a place
pub record AreSplitAt (pairs : List (ℕ × ℕ)) (number place : ℕ) : Type 0 where
  pub before : (k : ℕ) (d : ℕ × ℕ) → k < place → k < length pairs → (slice_index_or pairs k d).0 < number
  pub behind : (k : ℕ) (d : ℕ × ℕ) → place ≤ k → k < length pairs → number ≤ (slice_index_or pairs k d).0

-- the pairs of packages of which one rejects the other, with first numbers from one up to another and in their order
pub record ArePairsIn (r : PackageList) (start end : ℕ) (pairs : List (ℕ × ℕ)) : Type 0 where
  pub exact : (pair : ℕ × ℕ) → Contains pairs pair ↔ (IsPairIn start end pair × IsRejectingPair r pair)
  pub in_order : IsNonDecreasingBy (λ pair. pair.0) pairs

-- the set has a variable for each package and the limits of another set, and holds the clauses before a demand's at
-- mode plain
abbrev pub IsFront : PackageList → Demand → (limits set : ClauseList) → Type 0
IsFront r d limits set = IsSetOf r (λ e. IsDemand r false e × IsBefore e d) limits.clause_limit limits.literal_limit set

-- the same with all clauses of mode plain
abbrev pub IsPlainSet : PackageList → (limits set : ClauseList) → Type 0
IsPlainSet r limits set = IsSetOf r (IsDemand r false) limits.clause_limit limits.literal_limit set

-- an essential package of the name has a lesser number
abbrev pub IsNamedBelow : PackageList → ℕ → List ℕ → Type 0
IsNamedBelow r number name = (k : ℕ) × (k < number)
    × IsPackageAnd r.packages k (λ p. (p.essential ≡ true) × (p.name ≡ name))

-- no package from one number up to another is essential
abbrev pub HasNoEssential : PackageList → (start end : ℕ) → Type 0
HasNoEssential r start end = (k : ℕ) → start ≤ k → k < end → ¬ IsPackageAnd r.packages k (λ p. p.essential ≡ true)

-- the last essential package before one
pub record IsEssentialBefore (r : PackageList) (number k : ℕ) : Type 0 where
  pub earlier : k < number
  pub essential : IsPackageAnd r.packages k (λ p. p.essential ≡ true)
  pub last : HasNoEssential r (k + 1) number

-- the same, where there is one
abbrev pub IsLastEssential : PackageList → ℕ → Option ℕ → Type 0
IsLastEssential r number last = MatchOption last (HasNoEssential r 0 number) (IsEssentialBefore r number)

-- a demand other than a name, or the name of an essential package with a lesser number
abbrev pub IsNamedSoFar : PackageList → ℕ → Demand → Type 0
IsNamedSoFar r number (Item n place) = Unit {0}
IsNamedSoFar r number (Apart first second) = Unit {0}
IsNamedSoFar r number (Required name) = IsNamedBelow r number name

-- the same with the clauses at mode essential, but for those of names that only packages from a number on have
abbrev pub IsNamedFront : PackageList → ℕ → (limits set : ClauseList) → Type 0
IsNamedFront r number limits set = IsSetOf r (λ e. IsDemand r true e × IsNamedSoFar r number e) limits.clause_limit
    limits.literal_limit set

-- the same with all clauses of mode essential
abbrev pub IsEssentialSet : PackageList → (limits set : ClauseList) → Type 0
IsEssentialSet r limits set = IsSetOf r (IsDemand r true) limits.clause_limit limits.literal_limit set

-- why a set with limits refuses
abbrev pub IsCauseAt : PackageList → Bool → ClauseList → PushError → Type 0
IsCauseAt r essential limits = IsCause r essential limits.clause_limit limits.literal_limit
