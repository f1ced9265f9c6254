-- Where a search stands, and how it ends.
use Rattle.std.specs.Prelude.{◌≡◌, ◌≢◌, ◌+◌, ◌≤◌, ◌⊎◌, ℕ, Bool, List, [], ◌∷◌, length, take, All, AllPairs, Contains}
use Rattle.std.specs.Prelude.{slice_index}
use Rattle.dist_clause.specs.Formula.{Literal, value_of, IsTrueLiteral, IsModel, IsClauseOver}
use Rattle.dist_clause.specs.ClauseList.{clause_at}
use Rattle.dist_derive.specs.ClauseLog.{ClauseLog, inputs_of}
use Rattle.dist_derive.specs.OccurrencesPrivate.{code_of}
use Rattle.dist_derive.specs.Propagation.{IsFalse, IsUnset, AllFalse}
use Rattle.dist_derive.specs.Follows.{IsNumberOf, EndsFalse, Follows}
use Rattle.dist_derive.specs.New.{IsNew}
use Rattle.dist_derive.specs.Safe.{AreSafe}
use Rattle.dist_derive.specs.Watches.{WatchLists, AreWatchesOf, pair_of}
use Rattle.dist_search.specs.Trail.{TrailState, IsTrail}
use Rattle.dist_search.specs.Guard.{AreGuarded, IsLevelled}
use Rattle.dist_search.specs.Learned.{LearnedClause}
use Rattle.dist_search.specs.declared.search.End.{End}
use Rattle.dist_search.specs.declared.search.End.TheVariants.{Model, Refutation, Lesson}

-- a trail; the watches of the clauses with numbers up to `watched`, and for each literal's code a clause of this
-- literal alone, 0 for none; a clause that is false without a decision, 0 for none; and what the last conflict taught
pub record SearchState : Type 0 where
  pub trail : TrailState
  pub watches : WatchLists
  pub singles : List ℕ
  pub watched : ℕ
  pub conflict : ℕ
  pub learned : LearnedClause

-- a clause has two literals that are watched, or is one literal and known by it
abbrev pub IsCovered : List (List Literal) → WatchLists → List ℕ → ℕ → Type 0
IsCovered clauses watches singles number = ((pair_of watches number).0 ≢ (pair_of watches number).1)
    ⊎ ((l : Literal) × (clause_at clauses number ≡ l ∷ []) × (slice_index singles (code_of l) ≢ 0))

-- the clauses up to a number are covered, and what is known of others is true
pub record IsWatching (clauses : List (List Literal)) (search : SearchState) : Type 0 where
  pub within : search.watched ≤ length clauses
  pub watches : AreWatchesOf search.watches clauses
  pub covered : (number : ℕ) → 1 ≤ number → number ≤ search.watched
      → IsCovered clauses search.watches search.singles number
  pub singles : (l : Literal) → slice_index search.singles (code_of l) ≢ 0
      → IsNumberOf clauses (slice_index search.singles (code_of l))
      × (clause_at clauses (slice_index search.singles (code_of l)) ≡ l ∷ [])

-- no clause is known to be false: all are watched, and those within the cone are guarded, where the literals that were
-- taken are seen, and at each start
pub record IsGoing (clauses : List (List Literal)) (cone : List ℕ) (search : SearchState) : Type 0 where
  pub none : search.conflict ≡ 0
  pub all : search.watched ≡ length clauses
  pub guarded : AreGuarded search.watches clauses cone search.trail.literals
      (take search.trail.head search.trail.literals)
  pub levelled : IsLevelled search.watches clauses cone search.trail

-- a clause is false without a decision
pub record IsStuck (clauses : List (List Literal)) (search : SearchState) : Type 0 where
  pub number : IsNumberOf clauses search.conflict
  pub is_false : AllFalse search.trail.literals (clause_at clauses search.conflict)
  pub no_start : search.trail.starts ≡ []

-- a search stands within the cone of a question, whose assumptions are true
pub record IsSearching (clauses : List (List Literal)) (assumptions : List Literal) (cone : List ℕ)
    (search : SearchState) : Type 0 where
  pub watching : IsWatching clauses search
  pub trail : IsTrail clauses assumptions search.trail
  pub within_cone : All (λ l. Contains cone l.variable) search.trail.literals
  pub stands : IsGoing clauses cone search ⊎ IsStuck clauses search

-- What the last conflict taught lies within the cone and gives its first literal: all others are false, the second one
-- at no start, and a single literal is given without a decision.
pub record Gives (cone : List ℕ) (search : SearchState) : Type 0 where
  pub first : Literal
  pub rest : List Literal
  pub is : search.learned.clause ≡ first ∷ rest
  pub unset : IsUnset search.trail.literals first
  pub denied : AllFalse search.trail.literals rest
  pub latest : (second : Literal) (more : List Literal) → rest ≡ second ∷ more
      → All (λ s. ¬ IsFalse (take s search.trail.literals) second) search.trail.starts
  pub alone : rest ≡ [] → search.trail.starts ≡ []
  pub within_cone : All (λ l. Contains cone l.variable) search.learned.clause
  pub distinct : AllPairs (λ l m. l.variable ≢ m.variable) search.learned.clause

-- A model of the input clauses in which the assumptions are true.
pub record IsFound (log : ClauseLog) (assumptions : List Literal) (values : List Bool) : Type 0 where
  pub variables : length values ≡ log.variables
  pub model : IsModel (value_of values) (inputs_of log)
  pub assumed : All (IsTrueLiteral (value_of values)) assumptions

-- The hints refute the assumptions.
pub record IsRefuting (log : ClauseLog) (assumptions : List Literal) (learned : LearnedClause) : Type 0 where
  pub ends : EndsFalse log.clauses assumptions learned.hints
  pub short : length learned.hints ≤ log.variables + 1

-- A clause that is new follows by the hints, and keeps the log safe.
pub record IsNewLine (log : ClauseLog) (assumptions : List Literal) (learned : LearnedClause) : Type 0 where
  pub over : IsClauseOver log.variables learned.clause
  pub follows : Follows log.clauses learned.clause learned.hints
  pub short : length learned.hints ≤ log.variables + 1
  pub is_new : IsNew log.clauses log.inputs assumptions learned.clause
  pub safe : AreSafe (inputs_of log) (learned.clause ∷ [])

-- what each end gives; behind a new line the search can go on
abbrev pub IsEnd : ClauseLog → List Literal → List ℕ → SearchState → End → Type 0
IsEnd log assumptions cone search (Model values) = IsFound log assumptions values
IsEnd log assumptions cone search Refutation = IsRefuting log assumptions search.learned
IsEnd log assumptions cone search Lesson = IsNewLine log assumptions search.learned
    × IsSearching log.clauses assumptions cone search × IsGoing log.clauses cone search × Gives cone search
