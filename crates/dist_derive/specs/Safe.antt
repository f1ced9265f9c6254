-- Which clauses keep closed what the input clauses keep closed, and what is settled within a set of variables.
use Rattle.std.specs.Prelude.{◌≢◌, ℕ, Bool, ◌⊎◌, List, All, Contains}
use Rattle.dist_clause.specs.Formula.{Literal, negation}
use Rattle.dist_derive.specs.Propagation.{AllFalse, IsPropagated}
use Rattle.dist_derive.specs.Cone.{IsClosedUnder}

-- Clauses are safe over input clauses where each set of variables that is closed under these is closed under them too:
-- a clause of theirs that reaches outside such a set has a negative literal there.
abbrev pub AreSafe : List (List Literal) → List (List Literal) → Type 0
AreSafe inputs clauses = (has : ℕ → Bool) → IsClosedUnder has inputs → IsClosedUnder has clauses

-- A resolvent of two clauses by a literal of the one whose negation is in the other: it has the rest of both, and
-- nothing that neither has.
pub record IsResolvent (one other : List Literal) (l : Literal) (resolvent : List Literal) : Type 0 where
  pub in_one : Contains one l
  pub in_other : Contains other (negation l)
  pub rest_of_one : All (λ m. m ≢ l → Contains resolvent m) one
  pub rest_of_other : All (λ m. m ≢ negation l → Contains resolvent m) other
  pub no_more : All (λ m. Contains one m ⊎ Contains other m) resolvent

-- propagation is at its end without a conflict for the clauses within a set of variables, given by its list
abbrev pub AreSettledWithin : List ℕ → List (List Literal) → List Literal → Type 0
AreSettledWithin members clauses trues = All (λ clause. All (λ l. Contains members l.variable) clause
    → (¬ AllFalse trues clause) × IsPropagated trues clause) clauses
