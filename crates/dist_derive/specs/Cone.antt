-- The cone of assumptions: the variables that they reach through the input clauses.
use Rattle.std.specs.Prelude.{◌≡◌, ℕ, Bool, true, false, List, All}
use Rattle.dist_clause.specs.Formula.{Literal}

-- A set of variables is given by its test.
-- The set has all variables of each input clause of which it has the variables of all negative literals.
abbrev pub IsClosedUnder : (ℕ → Bool) → List (List Literal) → Type 0
IsClosedUnder has inputs = All (λ clause. All (λ l. l.positive ≡ false → has l.variable ≡ true) clause
    → All (λ l. has l.variable ≡ true) clause) inputs

-- The cone is the least set that has the variables of the assumptions and is closed under the input clauses: a variable
-- is in it where it is in every such set.
abbrev pub InCone : List (List Literal) → List Literal → ℕ → Type 0
InCone inputs assumptions variable = (has : ℕ → Bool) → All (λ l. has l.variable ≡ true) assumptions
    → IsClosedUnder has inputs → has variable ≡ true

-- all variables of the clause are in the cone
abbrev pub IsWithinCone : List (List Literal) → List Literal → List Literal → Type 0
IsWithinCone inputs assumptions clause = All (λ l. InCone inputs assumptions l.variable) clause
