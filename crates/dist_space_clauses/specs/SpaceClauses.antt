-- The clauses of a space: what an assignment must meet to stand for a future and a healthy installation in it, a clause
-- for each demand.
use Rattle.std.specs.Prelude.{◌≡◌, ◌≢◌, ℕ, ◌<◌, true, false, List, [], ◌∷◌, Any, Contains}
use Rattle.std.specs.Prelude.{IsSomeAnd, length, map, slice_get, slice_index}
use Rattle.std.specs.Cmp.Lexicographic.{slice_cmp}
use Rattle.std.specs.Ordering.{nat_cmp}
use Rattle.std.specs.declared.cmp.Ordering.TheVariants.{Less}
use Rattle.dist_clause.specs.Demands as made
use Rattle.dist_clause.specs.Demands.{Demands}
use Rattle.dist_clause.specs.Formula.{Literal, literal}
use Rattle.dist_relation.specs.declared.atom.Atom.{Atom}
use Rattle.dist_repo.specs.Conflict.{AreInConflict}
use Rattle.dist_repo.specs.Healthy.{required_names}
use Rattle.dist_repo.specs.Match.{Matches}
use Rattle.dist_repo.specs.PackageList.{IsPackageAnd}
use Rattle.dist_repo.specs.declared.package.Package.{Package}
use Rattle.dist_space.specs.Space.{SpaceView, AreMeaningsOf, IsMeaning, IsMetBy, cluster_classes, fresh_classes}
use Rattle.dist_space.specs.Space.{name_of, variable_of}
use Rattle.dist_space.specs.declared.meaning.Meaning.{Meaning}
use Rattle.dist_space.specs.declared.meaning.Meaning.TheVariants.{Now, Present, At, New, Kept, Fresh}

-- that a meaning holds, and that it does not
abbrev pub yes : SpaceView → Meaning → Literal
yes s m = literal (variable_of s m) true

abbrev pub no : SpaceView → Meaning → Literal
no s m = literal (variable_of s m) false

-- What an assignment must meet. Of a cluster: one class at most; none where a member is installed as it is today; its
-- class where a new version of that class is installed; the new version where an entry of it is kept. Of a new name:
-- one class at most. Of a package as it is today: an item, by its place; that another package is not installed. Of the
-- archive of today: that a cluster is not at a class, and that there is no package of a new name. And that a name is
-- installed.
pub data Demand : Type 0 where
  OneClass : (cluster first second : ℕ) → Demand
  Gone : (member class : ℕ) → Demand
  Moved : (member class : ℕ) → Demand
  Carried : (member class entry : ℕ) → Demand
  OneFresh : (name first second : ℕ) → Demand
  Item : (number place : ℕ) → Demand
  Apart : (number : ℕ) (other : Meaning) → Demand
  StaysNow : (cluster class : ℕ) → Demand
  AbsentNow : (name class : ℕ) → Demand
  Required : (name : List ℕ) → Demand

-- another package stands behind in the order of variables, has another name and is in conflict
abbrev pub Excludes : SpaceView → ℕ → Package → Meaning → Type 0
Excludes s number p (Present other) = (number < other)
    × IsPackageAnd s.repository.packages other (AreInConflict s.repository.architecture p)
Excludes s number p m = IsSomeAnd (name_of s m) (λ name. name ≢ p.name) × IsMetBy s p.conflicts m

-- an item of a package, by their numbers, with a property
abbrev pub IsItemAnd : SpaceView → (number place : ℕ) → (Package → List Atom → Type 0) → Type 0
IsItemAnd s number place P = IsPackageAnd s.repository.packages number
    (λ p. IsSomeAnd (slice_get p.depends place) (P p))

-- The demands of a space: the numbers are in range; an item is none that its own package meets; and at mode essential
-- the names of the repository's essential packages are required.
abbrev pub IsDemand : SpaceView → Demand → Type 0
IsDemand s (OneClass c k l) = (k < l) × (l < length (cluster_classes s c))
IsDemand s (Gone r k) = IsMeaning s (New r k)
IsDemand s (Moved r k) = IsMeaning s (New r k)
IsDemand s (Carried r k j) = IsMeaning s (Kept r k j)
IsDemand s (OneFresh x k l) = (k < l) × (l < length (fresh_classes s x))
IsDemand s (Item number place) = IsItemAnd s number place
    (λ p item. ¬ Any (λ atom. Matches s.repository.architecture atom p) item)
IsDemand s (Apart number other) = IsMeaning s other
    × IsPackageAnd s.repository.packages number (λ p. Excludes s number p other)
IsDemand s (StaysNow c k) = IsMeaning s (At c k)
IsDemand s (AbsentNow x k) = IsMeaning s (Fresh x k)
IsDemand s (Required name) = Contains (required_names s.essential s.repository.packages) name

-- the group of a demand
abbrev pub group_of : Demand → ℕ
group_of (OneClass c k l) = 1
group_of (Gone r k) = 2
group_of (Moved r k) = 2
group_of (Carried r k j) = 2
group_of (OneFresh x k l) = 3
group_of (Item number place) = 4
group_of (Apart number other) = 5
group_of (StaysNow c k) = 6
group_of (AbsentNow x k) = 6
group_of (Required name) = 7

-- the meaning whose variable leads a demand in its group
abbrev pub leading : Demand → Meaning
leading (OneClass c k l) = At c k
leading (Gone r k) = New r k
leading (Moved r k) = New r k
leading (Carried r k j) = Kept r k j
leading (OneFresh x k l) = Fresh x k
leading (Item number place) = Present number
leading (Apart number other) = Present number
leading (StaysNow c k) = At c k
leading (AbsentNow x k) = Fresh x k
leading (Required name) = Now

-- what orders the demands that one variable leads: of a new version, that its member is gone comes first
abbrev pub second_of : SpaceView → Demand → List ℕ
second_of s (OneClass c k l) = l ∷ []
second_of s (Gone r k) = 0 ∷ []
second_of s (Moved r k) = 1 ∷ []
second_of s (Carried r k j) = 0 ∷ []
second_of s (OneFresh x k l) = l ∷ []
second_of s (Item number place) = place ∷ []
second_of s (Apart number other) = variable_of s other ∷ []
second_of s (StaysNow c k) = 0 ∷ []
second_of s (AbsentNow x k) = 0 ∷ []
second_of s (Required name) = name

-- The order of demands: by groups, in a group by the variables that lead, and then by the rest.
abbrev pub rank_of : SpaceView → Demand → List ℕ
rank_of s d = group_of d ∷ variable_of s (leading d) ∷ second_of s d

abbrev pub IsBefore : SpaceView → Demand → Demand → Type 0
IsBefore s d e = slice_cmp nat_cmp (rank_of s d) (rank_of s e) ≡ Less

-- a package as it is today, or a new version, of a name
abbrev pub IsBearer : SpaceView → List ℕ → Meaning → Type 0
IsBearer s name (Present r) = IsPackageAnd s.repository.packages r (λ p. p.name ≡ name)
IsBearer s name (New r k) = IsPackageAnd s.repository.packages r (λ p. p.name ≡ name)
IsBearer s name m = ⊥

-- The clause of a demand.
abbrev pub IsClauseFor : SpaceView → Demand → List Literal → Type 0
IsClauseFor s (OneClass c k l) clause = clause ≡ no s (At c k) ∷ no s (At c l) ∷ []
IsClauseFor s (Gone r k) clause = clause ≡ no s (Present r) ∷ no s (At (slice_index s.cluster_of r) k) ∷ []
IsClauseFor s (Moved r k) clause = clause ≡ no s (New r k) ∷ yes s (At (slice_index s.cluster_of r) k) ∷ []
IsClauseFor s (Carried r k j) clause = clause ≡ no s (Kept r k j) ∷ yes s (New r k) ∷ []
IsClauseFor s (OneFresh x k l) clause = clause ≡ no s (Fresh x k) ∷ no s (Fresh x l) ∷ []
IsClauseFor s (Item number place) clause =
    (matching : List Meaning) × IsItemAnd s number place (λ p item. AreMeaningsOf s (IsMetBy s item) matching)
    × (clause ≡ no s (Present number) ∷ map (yes s) matching)
IsClauseFor s (Apart number other) clause = clause ≡ no s (Present number) ∷ no s other ∷ []
IsClauseFor s (StaysNow c k) clause = clause ≡ no s Now ∷ no s (At c k) ∷ []
IsClauseFor s (AbsentNow x k) clause = clause ≡ no s Now ∷ no s (Fresh x k) ∷ []
IsClauseFor s (Required name) clause = (bearers : List Meaning) × AreMeaningsOf s (IsBearer s name) bearers
    × (clause ≡ map (yes s) bearers)

-- the demands of a space in their order, and the clause of each
abbrev pub space_demands : SpaceView → Demands Demand
space_demands s = record {
  IsBefore = IsBefore s;
  IsClauseFor = IsClauseFor s;
  variables = length s.meanings;
}

-- The clauses of the demands with a property: one for each demand, in the order of demands.
abbrev pub AreClausesOf : SpaceView → (Demand → Type 0) → List (List Literal) → Type 0
AreClausesOf s = made.AreClausesFor (space_demands s)

-- The clauses of the space.
abbrev pub AreSpaceClauses : SpaceView → List (List Literal) → Type 0
AreSpaceClauses s = AreClausesOf s (IsDemand s)

-- those that stand before a demand's
abbrev pub AreClausesBefore : SpaceView → Demand → List (List Literal) → Type 0
AreClausesBefore s d = AreClausesOf s (λ e. IsDemand s e × IsBefore s e d)
