-- Literals, clauses, assignments and models of propositional logic in conjunctive normal form, in the
-- terms of the DIMACS CNF format: variables are numbered from 1, and a literal is a variable or its
-- negation.
use Rattle.std.specs.Prelude.{◌≡◌, ◌≢◌, ℕ, ◌-◌, ◌≤◌, Bool, false, not, List, All, Any, AllPairs, slice_index_or}

-- a variable, from 1 on, and a sign
pub record Literal : Type 0 where
  pub variable : ℕ
  pub positive : Bool

abbrev pub literal : ℕ → Bool → Literal
literal variable positive = record { variable = variable; positive = positive }

-- the other literal of the same variable
abbrev pub negation : Literal → Literal
negation l = literal l.variable (not l.positive)

-- an assignment gives each variable a truth value; as a list it has the value of variable 1 first
abbrev pub value_of : List Bool → ℕ → Bool
value_of values variable = slice_index_or values (variable - 1) false

-- a literal is true where its variable has its sign as value
abbrev pub IsTrueLiteral : (ℕ → Bool) → Literal → Type 0
IsTrueLiteral value l = value l.variable ≡ l.positive

-- a clause is a list of literals, and an assignment makes it true if one of them is true
abbrev pub MakesTrue : (ℕ → Bool) → List Literal → Type 0
MakesTrue value clause = Any (IsTrueLiteral value) clause

-- a model of a list of clauses makes them all true
abbrev pub IsModel : (ℕ → Bool) → List (List Literal) → Type 0
IsModel value clauses = All (MakesTrue value) clauses

-- a clause over the variables from 1 to n in which no variable stands twice
pub record IsClauseOver (n : ℕ) (clause : List Literal) : Type 0 where
  pub in_range : All (λ l. (1 ≤ l.variable) × (l.variable ≤ n)) clause
  pub distinct : AllPairs (λ l m. l.variable ≢ m.variable) clause
