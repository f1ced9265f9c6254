-- Between the steps of a search.
use Rattle.std.specs.Prelude.{◌≡◌, ◌+◌, ◌<◌, ◌≤◌, ◌⊎◌, ◌∷◌, ◌++◌, ℕ, Bool, true, false, List, [], length, take, All}
use Rattle.std.specs.Prelude.{Contains, slice_index}
use Rattle.dist_clause.specs.Formula.{Literal, literal, value_of}
use Rattle.dist_clause.specs.ClauseList.{clause_at}
use Rattle.dist_derive.specs.Propagation.{IsFalse, IsUnset, AllFalse}
use Rattle.dist_derive.specs.Follows.{IsNumberOf}
use Rattle.dist_search.specs.Trail.{TrailState, IsTrail}
use Rattle.dist_search.specs.Guard.{AreGuarded, IsLevelled}
use Rattle.dist_search.specs.Learned.{IsPoint}
use Rattle.dist_search.specs.Search.{SearchState, IsWatching, IsGoing}

-- a clause is false, and the clauses within the cone are guarded at each start
pub record IsAtConflict (clauses : List (List Literal)) (assumptions : List Literal) (cone : List ℕ)
    (search : SearchState) (clause : ℕ) : Type 0 where
  pub watching : IsWatching clauses search
  pub trail : IsTrail clauses assumptions search.trail
  pub within_cone : All (λ l. Contains cone l.variable) search.trail.literals
  pub number : IsNumberOf clauses clause
  pub is_false : AllFalse search.trail.literals (clause_at clauses clause)
  pub levelled : IsLevelled search.watches clauses cone search.trail
  pub going : (search.trail.starts ≡ []) ⊎ ((search.conflict ≡ 0) × (search.watched ≡ length clauses))

-- all true literals are taken, and no clause within the cone is false or unit
pub record IsAtRest (clauses : List (List Literal)) (assumptions : List Literal) (cone : List ℕ)
    (search : SearchState) : Type 0 where
  pub watching : IsWatching clauses search
  pub trail : IsTrail clauses assumptions search.trail
  pub within_cone : All (λ l. Contains cone l.variable) search.trail.literals
  pub going : IsGoing clauses cone search
  pub settled : AreGuarded search.watches clauses cone search.trail.literals search.trail.literals
  pub taken : search.trail.head ≡ length search.trail.literals

-- a literal of the variable is true
abbrev pub IsSet : List Literal → ℕ → Type 0
IsSet trues variable = Contains trues (literal variable true) ⊎ Contains trues (literal variable false)

-- a search has gone back to a decision
abbrev pub gone_back : SearchState → ℕ → SearchState
gone_back search level = record search {
  trail = record search.trail {
    literals = take (slice_index search.trail.starts level) search.trail.literals;
    reasons = take (slice_index search.trail.starts level) search.trail.reasons;
    starts = take level search.trail.starts;
    head = slice_index search.trail.starts level;
  };
}

-- a search has decided a literal
abbrev pub decided : SearchState → Literal → SearchState
decided search l = record search {
  trail = record search.trail {
    literals = search.trail.literals ++ l ∷ [];
    reasons = search.trail.reasons ++ 0 ∷ [];
    starts = search.trail.starts ++ length search.trail.literals ∷ [];
  };
}

-- an unset literal of the cone is decided, or none is unset
abbrev pub Decides : List ℕ → SearchState → SearchState → Bool → Type 0
Decides cone old new true = (l : Literal) × (new ≡ decided old l) × Contains cone l.variable
    × IsUnset old.trail.literals l × (l.variable ≤ old.trail.variables)
Decides cone old new false = (new ≡ old) × All (IsSet old.trail.literals) cone

-- a false clause is that of the first implication point behind the last start
pub record IsPointAtLast (trail : TrailState) (clause : List Literal) : Type 0 where
  pub level : ℕ
  pub last : length trail.starts ≡ level + 1
  pub point : IsPoint trail (slice_index trail.starts level) clause
  pub is_false : AllFalse trail.literals clause

-- how many decisions stand up to the second literal of the clause
pub record IsLevel (trail : TrailState) (clause : List Literal) (level : ℕ) : Type 0 where
  pub within : level < length trail.starts
  pub alone : (first : Literal) → clause ≡ first ∷ [] → level ≡ 0
  pub second : (first other : Literal) (more : List Literal) → clause ≡ first ∷ other ∷ more
      → IsFalse (take (slice_index trail.starts level) trail.literals) other
      × All (λ s. ¬ IsFalse (take s trail.literals) other) (take level trail.starts)

-- values in which exactly the true literals of the trail are true
pub record AreValuesOf (trues : List Literal) (values : List Bool) : Type 0 where
  pub true_ones : (l : Literal) → Contains trues l → value_of values l.variable ≡ l.positive
  pub others : (v : ℕ) → 1 ≤ v → (¬ IsSet trues v) → value_of values v ≡ false
