-- What taking one hint does to the true literals.
use Rattle.std.specs.Prelude.{◌≡◌, ◌≤◌, ℕ, List, [], ◌∷◌, ◌++◌, length, All}
use Rattle.dist_clause.specs.Formula.{Literal}
use Rattle.dist_clause.specs.ClauseList.{clause_at}
use Rattle.dist_derive.specs.Propagation.{AllFalse, IsUnit}
use Rattle.dist_derive.specs.Follows.{IsNumberOf}
use Rattle.dist_derive.specs.TrueLiterals.{LiteralList, HasOutcome}
use Rattle.dist_derive.specs.declared.true_literals.Outcome.{Outcome}
use Rattle.dist_derive.specs.declared.true_literals.Outcome.TheVariants.{Conflict, Unit as UnitClause, Open}

abbrev pub TakesHint : List (List Literal) → LiteralList → LiteralList → ℕ → Outcome → Type 0
TakesHint clauses old new hint Conflict = (new ≡ old) × IsNumberOf clauses hint
    × AllFalse old.literals (clause_at clauses hint)
TakesHint clauses old new hint (UnitClause l) =
    (new ≡ record old { literals = old.literals ++ l ∷ [] }) × IsNumberOf clauses hint
    × IsUnit old.literals (clause_at clauses hint) l
    × (length new.literals ≤ new.variables)
TakesHint clauses old new hint Open = (new ≡ old)
    × (IsNumberOf clauses hint → HasOutcome old.literals (clause_at clauses hint) Open)

-- the clauses of these numbers are false
abbrev pub AreConflicts : List (List Literal) → List Literal → List ℕ → Type 0
AreConflicts clauses trues numbers =
    All (λ number. IsNumberOf clauses number × AllFalse trues (clause_at clauses number)) numbers
