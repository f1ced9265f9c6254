-- Clauses made from demands: one clause for each demand, in the order of the demands; the set that holds them, and the
-- limit that they pass first.
use Rattle.std.specs.Prelude.{◌≡◌, ◌↔◌, ℕ, ◌+◌, ◌<◌, ◌≤◌, List, All, AllPairs, Any, length, map}
use Rattle.dist_clause.specs.ClauseList.{ClauseList, literal_count}
use Rattle.dist_clause.specs.Formula.{Literal}
use Rattle.dist_clause.specs.declared.clause_set.PushError.{PushError}
use Rattle.dist_clause.specs.declared.clause_set.PushError.TheVariants.{TooManyClauses, TooManyLiterals, NoMemory}

-- A kind of demands: the order in which they come, what the clause of each is, and over how many variables.
pub record Demands (Demand : Type 0) : Type 1 where
  pub IsBefore : Demand → Demand → Type 0
  pub IsClauseFor : Demand → List Literal → Type 0
  pub variables : ℕ

-- The clauses of the demands with a property: one for each demand, in the order of demands.
pub record AreClausesFor {D : Type 0} (demands : Demands D) (P : D → Type 0) (clauses : List (List Literal)) : Type 0
  where
    pub rows : List (D × List Literal)
    pub rising : AllPairs (λ a b. demands.IsBefore a.0 b.0) rows
    pub exact : (d : D) → Any (λ a. a.0 ≡ d) rows ↔ P d
    pub each : All (λ a. demands.IsClauseFor a.0 a.1) rows
    pub are : clauses ≡ map (λ a. a.1) rows

-- those that stand before a demand's
abbrev pub AreClausesBefore : {D : Type 0} → Demands D → (D → Type 0) → D → List (List Literal) → Type 0
AreClausesBefore demands P d = AreClausesFor demands (λ e. P e × demands.IsBefore e d)

-- a set over the variables of the demands, with two limits, that holds the clauses of the demands with a property
pub record IsSetOf {D : Type 0} (demands : Demands D) (P : D → Type 0) (clause_limit literal_limit : ℕ)
    (set : ClauseList) : Type 0 where
  pub clauses : AreClausesFor demands P set.clauses
  pub variables : set.variables ≡ demands.variables
  pub clause_limit_is : set.clause_limit ≡ clause_limit
  pub literal_limit_is : set.literal_limit ≡ literal_limit

-- The clauses before one keep both limits, and with this one they don't, in a way that is to be told.
pub record IsStopped {D : Type 0} (demands : Demands D) (P : D → Type 0) (clause_limit literal_limit : ℕ)
    (Passes : List (List Literal) → List Literal → Type 0) : Type 0 where
  pub demand : D
  pub is_demand : P demand
  pub clause : List Literal
  pub is_clause : demands.IsClauseFor demand clause
  pub front : List (List Literal)
  pub before : AreClausesBefore demands P demand front
  pub clauses_kept : length front ≤ clause_limit
  pub literals_kept : literal_count front ≤ literal_limit
  pub passes : Passes front clause

-- there are as many clauses as there may be
abbrev pub PassesClauseLimit : {D : Type 0} → Demands D → (D → Type 0) → (clause_limit literal_limit : ℕ) → Type 0
PassesClauseLimit demands P clause_limit literal_limit =
    IsStopped demands P clause_limit literal_limit (λ front clause. length front ≡ clause_limit)

-- there is room for the clause, but not for its literals
abbrev pub PassesLiteralLimit : {D : Type 0} → Demands D → (D → Type 0) → (clause_limit literal_limit : ℕ) → Type 0
PassesLiteralLimit demands P clause_limit literal_limit =
    IsStopped demands P clause_limit literal_limit
    (λ front clause. (length front < clause_limit) × (literal_limit < literal_count front + length clause))

-- why a refusal came; want of memory may come at any time
abbrev pub IsCause : {D : Type 0} → Demands D → (D → Type 0) → (clause_limit literal_limit : ℕ) → PushError → Type 0
IsCause demands P clause_limit literal_limit TooManyClauses = PassesClauseLimit demands P clause_limit literal_limit
IsCause demands P clause_limit literal_limit TooManyLiterals = PassesLiteralLimit demands P clause_limit literal_limit
IsCause demands P clause_limit literal_limit NoMemory = Unit {0}

-- ---- on the way to a set

-- why a clause was refused by a set within its limits
abbrev pub IsRefused : ClauseList → List Literal → PushError → Type 0
IsRefused set clause TooManyClauses = (literal_count set.clauses ≤ set.literal_limit)
    × (length set.clauses ≡ set.clause_limit)
IsRefused set clause TooManyLiterals =
    (literal_count set.clauses ≤ set.literal_limit) × (length set.clauses < set.clause_limit)
    × (set.literal_limit < literal_count set.clauses + length clause)
IsRefused set clause NoMemory = Unit {0}

-- such a set with the limits of another one
abbrev pub IsSetLike : {D : Type 0} → Demands D → (D → Type 0) → (limits set : ClauseList) → Type 0
IsSetLike demands P limits set = IsSetOf demands P limits.clause_limit limits.literal_limit set

-- why a set with limits refuses
abbrev pub IsCauseAt : {D : Type 0} → Demands D → (D → Type 0) → ClauseList → PushError → Type 0
IsCauseAt demands P limits = IsCause demands P limits.clause_limit limits.literal_limit
