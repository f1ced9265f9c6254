-- A set filled with equal clauses, as many as a text says.
use Rattle.std.specs.Prelude.{◌≡◌, ℕ, ◌≤◌, true, false, List, [], ◌∷◌, codes}
use Rattle.std.specs.Str.{trim}
use Rattle.std.specs.Str.Parse.{IsNumeral, digits_value, without_leading_plus}
use Rattle.dist_base.specs.declared.TheConstants.{MAX_CLAUSES}
use Rattle.dist_clause.specs.Formula.{Literal, literal}
use Rattle.dist_bench.specs.Counted.{counted}
use Rattle.dist_bench.specs.declared.error.JobError.{JobError}
use Rattle.dist_bench.specs.declared.error.JobError.TheVariants.{NoCount}

-- four literals of four variables
abbrev pub four : List Literal
four = literal 1 true ∷ literal 2 false ∷ literal 3 true ∷ literal 4 false ∷ []

-- The text is a decimal number, perhaps with white space around it and a plus in front, of clauses that a set may have.
pub record IsCount (text : List ℕ) (count : ℕ) : Type 0 where
  pub numeral : IsNumeral 10 (without_leading_plus (trim text))
  pub value : digits_value 10 (without_leading_plus (trim text)) ≡ count
  pub within : count ≤ MAX_CLAUSES

-- the answer of `fill-clauses`, and why it has none
abbrev pub IsFilledText : (text answer : List ℕ) → Type 0
IsFilledText text answer = (count : ℕ) × IsCount text count × (answer ≡ counted count (codes " clauses\n"))

abbrev pub HasNoCount : (text : List ℕ) → JobError → Type 0
HasNoCount text error = (error ≡ NoCount) × ((count : ℕ) → ¬ IsCount text count)
