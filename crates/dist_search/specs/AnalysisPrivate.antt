-- How a walk down the trail finds what a false clause teaches.
use Rattle.std.specs.Prelude.{◌≡◌, ◌≢◌, ◌+◌, ◌≤◌, ◌<◌, ◌⊎◌, ◌↔◌, ℕ, List, [], ◌∷◌}
use Rattle.std.specs.Prelude.{length, take, reverse, All, AllPairs, Contains, slice_index}
use Rattle.dist_clause.specs.Formula.{Literal, negation}
use Rattle.dist_derive.specs.ClauseLog.{ClauseLog, inputs_of}
use Rattle.dist_derive.specs.Propagation.{IsFalse, AllFalse}
use Rattle.dist_derive.specs.Follows.{EndsFalse}
use Rattle.dist_derive.specs.Safe.{AreSafe}
use Rattle.dist_search.specs.Trail.{TrailState, literal_at, IsGiven}

-- the variables that were met, the places of the earliest literal of one and of the earliest at the current level, what
-- was kept, and behind the false clause those that were resolved, in the order of the walk
pub record WalkState : Type 0 where
  pub variables : ℕ
  pub members : List ℕ
  pub earliest : ℕ
  pub lowest : ℕ
  pub clause : List Literal
  pub hints : List ℕ

-- the variable has a value
abbrev pub HasValue : List Literal → Literal → Type 0
HasValue trues l = Contains trues l ⊎ IsFalse trues l

-- where the first and the last decision stand; the trail's end without one
pub record AreBounds (trail : TrailState) (first current : ℕ) : Type 0 where
  pub in_order : first ≤ current
  pub to_end : current ≤ length trail.literals
  pub none : trail.starts ≡ [] → first ≡ length trail.literals
  pub last : (level : ℕ) → length trail.starts ≡ level + 1 → current ≡ slice_index trail.starts level

-- no literal of a variable that was met is before the earliest place, nor one of the current level before the lowest
pub record AreMet (trues : List Literal) (current : ℕ) (walk : WalkState) : Type 0 where
  pub earliest : (place : ℕ) → place < length trues → Contains walk.members (literal_at trues place).variable
      → walk.earliest ≤ place
  pub lowest : (place : ℕ) → place < length trues → Contains walk.members (literal_at trues place).variable
      → current ≤ place → walk.lowest ≤ place
  pub attained : walk.lowest < length trues → (current ≤ walk.lowest)
      × Contains walk.members (literal_at trues walk.lowest).variable

-- the variables of a clause are met, and no others
pub record Meets (trues : List Literal) (current : ℕ) (clause : List Literal) (old new : WalkState) : Type 0 where
  pub same_variables : new.variables ≡ old.variables
  pub same_clause : new.clause ≡ old.clause
  pub same_hints : new.hints ≡ old.hints
  pub stay : (v : ℕ) → Contains old.members v → Contains new.members v
  pub met : (l : Literal) → Contains clause l → Contains new.members l.variable
  pub only : (v : ℕ) → Contains new.members v
      → Contains old.members v ⊎ ((l : Literal) × Contains clause l × (l.variable ≡ v))
  pub bounds : AreMet trues current old → AreMet trues current new

-- A safe clause of what was kept and of what was met before a place: where it is false and nothing that was resolved is
-- true, the hints end in a false clause.
pub record Resolves (log : ClauseLog) (assumptions trues : List Literal) (place : ℕ) (walk : WalkState) : Type 0 where
  pub resolvent : List Literal
  pub has : (l : Literal) → Contains resolvent l ↔ (Contains walk.clause l
      ⊎ (Contains walk.members l.variable × IsFalse (take place trues) l))
  pub safe : AreSafe (inputs_of log) log.clauses → AreSafe (inputs_of log) (resolvent ∷ [])
  pub ends : (given : List Literal) → AllFalse given resolvent
      → ((l : Literal) → Contains given l → Contains (take place trues) l ⊎ (Contains walk.clause (negation l)
      ⊎ Contains assumptions l))
      → EndsFalse log.clauses given (reverse walk.hints)

-- what was kept became false from a place on, each literal before the one in front of it
pub record AreKept (assumptions : List Literal) (trail : TrailState) (place : ℕ) (clause : List Literal) : Type 0 where
  pub behind : All (λ l. IsFalse trail.literals l × (¬ IsFalse (take place trail.literals) l)) clause
  pub distinct : AllPairs (λ l m. l.variable ≢ m.variable) clause
  pub falling : AllPairs (λ l m. (k : ℕ) → IsFalse (take k trail.literals) l → IsFalse (take k trail.literals) m) clause
  pub assumed : trail.starts ≡ [] → AllFalse assumptions clause

-- a literal whose negation may be kept: without decisions an assumption, and at the current level the decision, or one
-- before which none of the level was met
pub record MayKeep (trail : TrailState) (count current place lowest : ℕ) : Type 0 where
  pub assumed : trail.starts ≡ [] → place < count
  pub last : current ≤ place → (place ≡ current) ⊎ (place ≤ lowest)

-- a literal that may be resolved: a clause gave it, and at the current level another one was met before it
pub record MayResolve (clauses : List (List Literal)) (trail : TrailState) (count current place lowest : ℕ)
    : Type 0 where
  pub given : IsGiven clauses trail place
  pub behind : count ≤ place
  pub lower : current ≤ place → lowest < place

-- nothing is kept, and a literal of the current level is still before the place
pub record IsPending (trues : List Literal) (current place : ℕ) (walk : WalkState) : Type 0 where
  pub none : walk.clause ≡ []
  pub here : ℕ
  pub late : current ≤ here
  pub before : here < place
  pub within : here < length trues
  pub met : Contains walk.members (literal_at trues here).variable

-- the first literal that was kept is of the current level, no other is, and none that was met is left of it
pub record IsFound (trues : List Literal) (current place : ℕ) (walk : WalkState) : Type 0 where
  pub first : Literal
  pub rest : List Literal
  pub is : walk.clause ≡ first ∷ rest
  pub late : ¬ IsFalse (take current trues) first
  pub early : AllFalse (take current trues) rest
  pub none_left : (k : ℕ) → current ≤ k → k < place → k < length trues
      → ¬ Contains walk.members (literal_at trues k).variable

-- the way down to the point
abbrev pub LeadsToPoint : List Literal → ℕ → ℕ → WalkState → Type 0
LeadsToPoint trues current place walk = IsPending trues current place walk ⊎ IsFound trues current place walk

-- the literals from a place on were taken
pub record IsWalked (log : ClauseLog) (assumptions : List Literal) (trail : TrailState) (current place : ℕ)
    (walk : WalkState) : Type 0 where
  pub same_variables : walk.variables ≡ log.variables
  pub resolves : Resolves log assumptions trail.literals place walk
  pub kept : AreKept assumptions trail place walk.clause
  pub met : AreMet trail.literals current walk
  pub short : length walk.hints + place ≤ length trail.literals + 1
