-- Worked examples of the definitions of `Formula` and `ClauseList`.
use Rattle.std.specs.Prelude.{◌≡◌, true, false, List, [], ◌∷◌, refl}
use Rattle.std.proofs.Common.{lit<}
use Rattle.dist_clause.specs.Formula.{Literal, literal, negation, value_of, MakesTrue}
use Rattle.dist_clause.specs.ClauseList.{clause_at, literal_count}

second_is_true : value_of (false ∷ true ∷ []) 2 ≡ true
second_is_true = refl

negated_twice : negation (negation (literal 3 false)) ≡ literal 3 false
negated_twice = refl

-- with variable 1 false and variable 2 true, the clause `1 2` is true by its second literal
true_by_second : MakesTrue (value_of (false ∷ true ∷ [])) (literal 1 true ∷ literal 2 true ∷ [])
true_by_second = (1, literal 2 true, lit< tt, refl, refl)

-- the clause `-1 2` is true by its first literal
true_by_negation : MakesTrue (value_of (false ∷ false ∷ [])) (literal 1 false ∷ literal 2 true ∷ [])
true_by_negation = (0, literal 1 false, lit< tt, refl, refl)

two_clauses : List (List Literal)
two_clauses = (literal 1 false ∷ literal 2 true ∷ []) ∷ (literal 2 false ∷ []) ∷ []

second_clause : clause_at two_clauses 2 ≡ literal 2 false ∷ []
unfolding two_clauses
second_clause = refl

three_literals : literal_count two_clauses ≡ 3
unfolding two_clauses
three_literals = refl
