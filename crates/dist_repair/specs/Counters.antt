-- Variables and clauses that count the clusters that move, behind those of a space: one variable for each cluster, that
-- it has moved, and for each cluster and each number up to the most one that more than so many of the clusters up to
-- this one have moved. (A counter as in Sinz, "Towards an optimal CNF encoding of Boolean cardinality constraints",
-- 2005.) Clusters are numbered from 0.
use Rattle.std.specs.Prelude.{◌≡◌, ◌↔◌, ℕ, zero, suc, ◌+◌, ◌*◌, ◌<◌, ◌≤◌, Bool, true, false, List, [], ◌∷◌, ◌++◌}
use Rattle.std.specs.Prelude.{Some}
use Rattle.std.specs.Prelude.{Contains, length, slice_get, take}
use Rattle.std.specs.List.Sorted.{IsStrictlyIncreasing}
use Rattle.dist_clause.specs.ClauseList.{ClauseList, literal_count}
use Rattle.dist_clause.specs.Formula.{Literal, IsModel, literal, value_of}
use Rattle.dist_outside.specs.declared.limits.Limits.{Limits}
use Rattle.dist_outside.specs.declared.trouble.What.{What}
use Rattle.dist_outside.specs.declared.trouble.What.TheVariants.{Variables, Clauses, Literals}
use Rattle.dist_repo.specs.declared.package.Package.{Package}
use Rattle.dist_future.specs.Moved.{IsAtClass}
use Rattle.dist_future.specs.SpaceLaws.{holds_under}
use Rattle.dist_space.specs.Space.{SpaceView, cluster_classes, variable_of}
use Rattle.dist_space.specs.declared.meaning.Meaning.TheVariants.{Present, At}
use Rattle.dist_repair.specs.Repair.{IsInstalledUnder, IsPossibleWithin}

-- what is given for each number below a bound, one after another
unfoldable pub each_below : {X : Type 0} → ℕ → (ℕ → List X) → List X
each_below zero given = []
each_below (suc n) given = each_below n given ++ given n

-- ---- variables

-- The variables of a counter stand behind a last one. It counts so many clusters, up to a most.
pub record Counter : Type 0 where
  pub last : ℕ
  pub clusters : ℕ
  pub most : ℕ

-- that a cluster has moved
abbrev pub moved : Counter → ℕ → ℕ
moved t c = t.last + c + 1

-- that more than j of the clusters up to c have moved
abbrev pub more : Counter → (c j : ℕ) → ℕ
more t c j = t.last + t.clusters + c * (t.most + 1) + j + 1

-- how many variables there are with those of the counter
abbrev pub counted_variables : Counter → ℕ
counted_variables t = t.last + t.clusters + t.clusters * (t.most + 1)

-- ---- clauses

abbrev pub yes : ℕ → Literal
yes variable = literal variable true

abbrev pub no : ℕ → Literal
no variable = literal variable false

-- a cluster that is at a class has moved
abbrev pub class_clauses : SpaceView → Counter → (c : ℕ) → List (List Literal)
class_clauses s t c = each_below (length (cluster_classes s c))
    (λ k. (no (variable_of s (At c k)) ∷ yes (moved t c) ∷ []) ∷ [])

-- More than j have moved up to a cluster where more than j have up to the one before it; and where it has moved itself,
-- and more than one less have before it.
unfoldable pub count_clauses : Counter → (c j : ℕ) → List (List Literal)
count_clauses t zero zero = (no (moved t 0) ∷ yes (more t 0 0) ∷ []) ∷ []
count_clauses t zero (suc j) = []
count_clauses t (suc c) zero = (no (more t c 0) ∷ yes (more t (suc c) 0) ∷ [])
    ∷ (no (moved t (suc c)) ∷ yes (more t (suc c) 0) ∷ []) ∷ []
count_clauses t (suc c) (suc j) = (no (more t c (suc j)) ∷ yes (more t (suc c) (suc j)) ∷ [])
    ∷ (no (moved t (suc c)) ∷ no (more t c j) ∷ yes (more t (suc c) (suc j)) ∷ []) ∷ []

-- the clauses of the classes, cluster by cluster, and then those that count
abbrev pub counter_clauses : SpaceView → Counter → List (List Literal)
counter_clauses s t = each_below t.clusters (class_clauses s t)
    ++ each_below t.clusters (λ c. each_below (t.most + 1) (count_clauses t c))

-- the counter of a space's clusters
abbrev pub counter_of : SpaceView → (most : ℕ) → Counter
counter_of s most = record { last = length s.meanings; clusters = length s.clusters.members; most = most }

-- the clauses of a space with those of its counter behind them
abbrev pub counted_clauses : SpaceView → List (List Literal) → (most : ℕ) → List (List Literal)
counted_clauses s clauses most = clauses ++ counter_clauses s (counter_of s most)

-- ---- what they mean

-- a model of these clauses has the package of a number, and no more than so many clusters have moved in it
pub record HasCountedModel (s : SpaceView) (clauses : List (List Literal)) (most number within : ℕ) : Type 0 where
  pub values : List Bool
  pub one_each : length values ≡ counted_variables (counter_of s most)
  pub model : IsModel (value_of values) (counted_clauses s clauses most)
  pub holds : holds_under s values (Present number) ≡ true
  pub last : ℕ
  pub is_last : length s.clusters.members ≡ last + 1
  pub kept : value_of values (more (counter_of s most) last within) ≡ false

-- No more than a number of clusters need to move for a package exactly where such a model is there.
abbrev pub CountedModelsTell : SpaceView → List (List Literal) → (most : ℕ) → Type 0
CountedModelsTell s clauses most = (number : ℕ) (p : Package) (within : ℕ)
    → slice_get s.repository.packages number ≡ Some p → within ≤ most
    → HasCountedModel s clauses most number within ↔ IsPossibleWithin s p within

-- the numbers of the clusters that are at a class under the assignment, rising
pub record AreAtClass (s : SpaceView) (values : List Bool) (numbers : List ℕ) : Type 0 where
  pub rising : IsStrictlyIncreasing numbers
  pub exact : (c : ℕ) → Contains numbers c ↔ ((c < length s.clusters.members) × IsAtClass s values c)

-- A package that a model has can be installed by moving the clusters that are at a class in it, each to its class.
abbrev pub ModelsTellMoves : SpaceView → List (List Literal) → Type 0
ModelsTellMoves s clauses = (values : List Bool) (number : ℕ) (p : Package) (numbers : List ℕ)
    → IsModel (value_of values) clauses → slice_get s.repository.packages number ≡ Some p
    → holds_under s values (Present number) ≡ true → AreAtClass s values numbers → IsInstalledUnder s values p numbers

-- ---- the set that holds them

-- The set holds the clauses of a space with those of its counter, and keeps the limits.
pub record IsCountedSet (limits : Limits) (s : SpaceView) (most : ℕ) (clauses set : ClauseList) : Type 0 where
  pub counted : set.clauses ≡ counted_clauses s clauses.clauses most
  pub variables : set.variables ≡ counted_variables (counter_of s most)
  pub variables_kept : set.variables ≤ limits.variables
  pub clauses_kept : length set.clauses ≤ limits.clauses
  pub literals_kept : literal_count set.clauses ≤ limits.literals

-- The number that they pass first: that of variables, or else that of clauses or of literals, by the first clause for
-- which there is no room.
abbrev pub PassesCounted : Limits → SpaceView → (most : ℕ) → List (List Literal) → What → Type 0
PassesCounted limits s most clauses Variables = limits.variables < counted_variables (counter_of s most)
PassesCounted limits s most clauses Clauses = (counted_variables (counter_of s most) ≤ limits.variables)
    × (limits.clauses < length (counted_clauses s clauses most))
    × (literal_count (take limits.clauses (counted_clauses s clauses most)) ≤ limits.literals)
PassesCounted limits s most clauses Literals = (counted_variables (counter_of s most) ≤ limits.variables)
    × (limits.literals < literal_count (take limits.clauses (counted_clauses s clauses most)))
PassesCounted limits s most clauses what = ⊥
