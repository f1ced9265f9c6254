-- The clauses of the space of the futures of a Packages file, at mode plain, and their number.
use Rattle.std.specs.Prelude.{◌≡◌, ◌⊎◌, ℕ, List, ◌++◌, codes, length}
use Rattle.dist_base.specs.declared.TheConstants.{MAX_CLAUSES, MAX_LITERALS}
use Rattle.dist_clause.specs.ClauseList.{literal_count}
use Rattle.dist_clause.specs.Formula.{Literal}
use Rattle.dist_space.specs.Space.{SpaceView}
use Rattle.dist_space_clauses.specs.SpaceClauses.{AreSpaceClauses}
use Rattle.dist_space_clauses.specs.SpaceSet.{PassesClauses, PassesLiterals}
use Rattle.dist_bench.specs.Counted.{counted}
use Rattle.dist_bench.specs.Futures.{HasNoSpace, OfSpace}
use Rattle.dist_bench.specs.declared.error.JobError.{JobError}
use Rattle.dist_bench.specs.declared.error.JobError.TheVariants.{TooManyClauses}
use Rattle.dist_bench.specs.declared.future_clauses.SetCounts.{SetCounts}

abbrev pub PassesFutureLimits : SpaceView → Type 0
PassesFutureLimits space = PassesClauses space MAX_CLAUSES MAX_LITERALS ⊎ PassesLiterals space MAX_CLAUSES MAX_LITERALS

-- the clauses of a space, which pass no stated limit
pub record AreFutureWithin (space : SpaceView) (clauses : List (List Literal)) : Type 0 where
  pub are : AreSpaceClauses space clauses
  pub within : ¬ PassesFutureLimits space

-- so many clauses the space has, and so many literals they have together
abbrev pub HaveSpaceCounts : SpaceView → SetCounts → Type 0
HaveSpaceCounts space counts = (clauses : List (List Literal)) × AreFutureWithin space clauses
    × (counts.clauses ≡ length clauses) × (counts.literals ≡ literal_count clauses)

-- so many the space of the newest packages of the text has
abbrev pub HaveFutureCounts : (text : List ℕ) → SetCounts → Type 0
HaveFutureCounts text counts = OfSpace text (λ space. HaveSpaceCounts space counts)

abbrev pub future_counts_text : SetCounts → List ℕ
future_counts_text counts = counted counts.clauses (codes " clauses of futures, ")
    ++ counted counts.literals (codes " literals\n")

-- the answer of `count-future-clauses`, and why it has none
abbrev pub IsFutureClausesText : (text answer : List ℕ) → Type 0
IsFutureClausesText text answer = (counts : SetCounts) × HaveFutureCounts text counts
    × (answer ≡ future_counts_text counts)

abbrev pub HasNoFutureClauses : (text : List ℕ) → JobError → Type 0
HasNoFutureClauses text error = HasNoSpace text error ⊎ ((error ≡ TooManyClauses) × OfSpace text PassesFutureLimits)
