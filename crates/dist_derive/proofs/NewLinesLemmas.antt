-- Lines that are new one after another.
use Rattle.std.proofs.Common.{◌≡◌, ℕ, ◌+◌, ◌-◌, ◌<◌, ◌≤◌, inl, inr, List, take, sym, subst, arith}
use Rattle.std.proofs.lemmas.Bool.{cases_eq}
use Rattle.std.proofs.lemmas.List.{take-take}
use Rattle.dist_clause.specs.ClauseList.{clause_at}
use Rattle.dist_clause.specs.Formula.{Literal, IsClauseOver}
use Rattle.dist_derive.specs.Cone.{IsWithinCone}
use Rattle.dist_derive.specs.ConePrivate.{AreLinesWithin}
use Rattle.dist_derive.specs.New.{AreNewFrom, IsNew, LeavesFirstUnset}
use Rattle.dist_derive.proofs.NewLemmas.{IsNew-parts}

-- one number more
pub numbers_more : (P : ℕ → Type 0) (last before : ℕ) → ((number : ℕ) → last < number → number ≤ before → P number) → P (before + 1)
    → (number : ℕ) → last < number → number ≤ before + 1 → P number
numbers_more P last before each next number above to = elim (cases_eq number (before + 1)) [
  | inl same ↦ subst P (sym same) next
  | inr apart ↦ each number above (omega (arith, to, apart))
]

-- a line whose variables are in the cone is new over those before it where they leave its first literal unset
module _ (n : ℕ) (clauses : List (List Literal)) (inputs : ℕ) (assumptions : List Literal) (before : ℕ) (clause : List Literal)
    (over : IsClauseOver n clause) (behind : inputs ≤ before) where
  inputs_are : take inputs (take before clauses) ≡ take inputs clauses
  inputs_are = take-take inputs before clauses behind

  pub line_new : IsWithinCone (take inputs clauses) assumptions clause → LeavesFirstUnset (take before clauses) assumptions clause
      → IsNew (take before clauses) inputs assumptions clause
  line_new within leaves = (IsNew-parts n (take before clauses) inputs assumptions clause over).1 (
    subst (λ cs. IsWithinCone cs assumptions clause) (sym inputs_are) within,
    leaves,
  )

-- lines that are new are within the cone
pub lines_within : (clauses : List (List Literal)) (inputs : ℕ) (assumptions : List Literal) (last : ℕ) → inputs ≤ last
    → AreNewFrom clauses inputs assumptions last → AreLinesWithin (take inputs clauses) clauses assumptions last
lines_within clauses inputs assumptions last behind new number above to =
    let is_new = new number above to in
    subst (λ cs. IsWithinCone cs assumptions (clause_at clauses number)) (take-take inputs (number - 1) clauses (omega (arith, behind, above)))
    is_new.within_cone
