-- A clause is new where its variables are reached and its first literal is left unset.
use Rattle.std.proofs.Common.{◌≡◌, ℕ, ◌-◌, ◌↔◌, inl, inr, min, List, length, take, ap, sym, subst, ◌∙◌, arith, length-take}
use Rattle.std.specs.List.{All}
use Rattle.std.proofs.lemmas.Bool.{cases_lt}
use Rattle.std.proofs.lemmas.List.{take-take, take_all, take_min}
use Rattle.dist_clause.specs.Formula.{Literal, IsClauseOver}
use Rattle.dist_derive.specs.Cone.{InCone}
use Rattle.dist_derive.specs.New.{IsNew, LeavesFirstUnset}

pub IsNew-parts : (n : ℕ) (clauses : List (List Literal)) (inputs : ℕ) (assumptions clause : List Literal) → IsClauseOver n clause
    → IsNew clauses inputs assumptions clause ↔ (All (λ l. InCone (take inputs clauses) assumptions l.variable) clause
    × LeavesFirstUnset clauses assumptions clause)
IsNew-parts n clauses inputs assumptions clause over = (λ h. (h.within_cone, h.adds), λ h. record { distinct = over.distinct; within_cone = h.0; adds = h.1 })

-- the inputs among the first clauses
pub take-inputs : {X : Type 0} (xs : List X) (inputs last few : ℕ) → few ≡ min last inputs → take few xs ≡ take inputs (take last xs)
take-inputs xs inputs last few e = elim (cases_lt last inputs) [
  | inl less ↦
      let same : few ≡ last = omega arith in
      ap (λ k. take k xs) same ∙ sym (take_all inputs (take last xs) (omega (arith, length-take last xs)))
  | inr more ↦
      let same : few ≡ inputs = omega arith in
      ap (λ k. take k xs) same ∙ sym (take-take inputs last xs more)
]

-- the clauses below a number, where the number may be too large
pub clauses_below : {X : Type 0} (xs : List X) (before last : ℕ) → last ≡ min (before - 1) (length xs) → take last xs ≡ take (before - 1) xs
clauses_below xs before last e = ap (λ k. take k xs) e ∙ take_min (before - 1) xs

-- with the numbers that the code computes
pub IsNew-computed : (n : ℕ) (clauses : List (List Literal)) (inputs before last few : ℕ) (assumptions clause : List Literal) → IsClauseOver n clause
    → last ≡ min (before - 1) (length clauses) → few ≡ min last inputs
    → IsNew (take (before - 1) clauses) inputs assumptions clause
    ↔ (All (λ l. InCone (take few clauses) assumptions l.variable) clause × LeavesFirstUnset (take last clauses) assumptions clause)
IsNew-computed n clauses inputs before last few assumptions clause over is_last is_few =
    let below = clauses_below clauses before last is_last in
    let among : take few clauses ≡ take inputs (take (before - 1) clauses) = take-inputs clauses inputs last few is_few ∙ ap (λ cs. take inputs cs) below in
    let parts = IsNew-parts n (take (before - 1) clauses) inputs assumptions clause over in (
      λ h. let p = parts.0 h in (
        subst (λ cs. All (λ l. InCone cs assumptions l.variable) clause) (sym among) p.0,
        subst (λ cs. LeavesFirstUnset cs assumptions clause) (sym below) p.1,
      ),
      λ h. parts.1 (subst (λ cs. All (λ l. InCone cs assumptions l.variable) clause) among h.0, subst (λ cs. LeavesFirstUnset cs assumptions clause) below h.1),
    )
