-- What a question adds to the log.
use Rattle.std.specs.Prelude.{◌≡◌, ℕ, ◌+◌, ◌≤◌, List, [], ◌∷◌, ◌++◌, length, All}
use Rattle.dist_clause.specs.Formula.{Literal}
use Rattle.dist_derive.specs.ClauseLog.{ClauseLog}
use Rattle.dist_derive.specs.Follows.{Follows}
use Rattle.dist_derive.specs.New.{EachIsNew}
use Rattle.dist_solver.specs.Derived.{DerivedLine}

-- lines added one after another, each with its number and with hints by which it follows from the clauses before it
abbrev pub EachIsEvidence : List (List Literal) → List (List Literal) → List DerivedLine → Type 0
EachIsEvidence clauses [] [] = Unit {0}
EachIsEvidence clauses [] (d ∷ derived) = ⊥
EachIsEvidence clauses (line ∷ lines) [] = ⊥
EachIsEvidence clauses (line ∷ lines) (d ∷ derived) = (d.line ≡ length clauses + 1) × Follows clauses line d.hints
    × EachIsEvidence (clauses ++ line ∷ []) lines derived

-- a list of hints has at most as many entries as there are variables, and one
abbrev pub IsShort : ℕ → List ℕ → Type 0
IsShort variables hints = length hints ≤ variables + 1

-- What a question adds to the log under its assumptions: at most `limit` lines, each following by its recorded hints
-- and new when it was added. `derived` is these lines and no others, and nothing else of the log changes.
pub record Adds (old new : ClauseLog) (derived : List DerivedLine) (assumptions : List Literal) (limit : ℕ) : Type 0
  where
    pub lines : List (List Literal)
    pub log : new ≡ record old { clauses = old.clauses ++ lines }
    pub follow : EachIsEvidence old.clauses lines derived
    pub are_new : EachIsNew old.clauses old.inputs assumptions lines
    pub short : All (λ d. IsShort old.variables d.hints) derived
    pub few : length lines ≤ limit
