-- Worked examples of what a question adds, of a refutation and of a model, over the clauses `-1 2` and `-1 -2`.
use Rattle.std.proofs.Common.{◌≡◌, ◌<◌, ℕ, zero, suc, Bool, true, false, List, [], ◌∷◌, length, refl, sym, subst, ◌∙◌}
use Rattle.std.proofs.Common.{◌⊎◌, ⊎_elim, inl, inr, get_or, arith, lit<, lit≤}
use Rattle.std.specs.List.{All}
use Rattle.std.proofs.lemmas.Bool.{false≢true}
use Rattle.dist_clause.specs.Formula.{Literal, MakesTrue, value_of, IsTrueLiteral, IsModel}
use Rattle.dist_derive.specs.ClauseLog.{ClauseLog}
use Rattle.dist_derive.specs.Examples.{yes, no, both, follows_by_both}
use Rattle.dist_solver.specs.Derived.{DerivedLine, line_at}
use Rattle.dist_solver.specs.Evidence.{EachIsEvidence}
use Rattle.dist_solver.specs.Ask.{IsModelUnder, IsRefutation}

-- both clauses are inputs, over two variables
abbrev log : ClauseLog
log = record { clauses = both; inputs = 2; variables = 2; line_limit = 1; line_literal_limit = 1 }

-- a clause of two literals is true by one of them
one_of : (value : ℕ → Bool) (l m : Literal) → MakesTrue value (l ∷ m ∷ []) → IsTrueLiteral value l
    ⊎ IsTrueLiteral value m
one_of value l m made = at made.0 made.2 made.3
  where
    at : (k : ℕ) → k < length (l ∷ m ∷ []) → get_or (l ∷ m ∷ []) k made.1 ≡ made.1 → IsTrueLiteral value l
        ⊎ IsTrueLiteral value m
    at zero within e = inl (subst (λ x. IsTrueLiteral value x) (sym e) made.4)
    at (suc zero) within e = inr (subst (λ x. IsTrueLiteral value x) (sym e) made.4)
    at (suc (suc k)) within e = absurd (omega arith)

-- the assumption 1 is refuted by the hints 1 and 2
refuted : IsRefutation log (yes 1 ∷ []) (1 ∷ 2 ∷ [])
refuted = record { follows = follows_by_both; short = lit≤ tt; no_model = no_model }
  where
    -- 1 is true, so 2 is true by the first clause and false by the second
    no_model : (value : ℕ → Bool) → IsModel value both → ¬ All (IsTrueLiteral value) (yes 1 ∷ [])
    no_model value model all =
        let one = all 0 (yes 1) (lit< tt) in
        ⊎_elim (λ first. false≢true (sym first ∙ one))
        (λ two. ⊎_elim (λ first. false≢true (sym first ∙ one)) (λ not_two. false≢true (sym not_two ∙ two))
        (one_of value (no 1) (no 2) (model 1 [] (lit< tt))))
        (one_of value (no 1) (yes 2) (model 0 [] (lit< tt)))

-- the line `-1` has the number 3 and follows by the same hints
abbrev derived : List DerivedLine
derived = record { line = 3; hints = 1 ∷ 2 ∷ [] } ∷ []

evidence : EachIsEvidence both ((no 1 ∷ []) ∷ []) derived
evidence = (refl, follows_by_both, tt)

first : (line_at derived 0).line ≡ 3
first = refl

-- a line that is left out of the derived ones has no evidence
left_out : ¬ EachIsEvidence both ((no 1 ∷ []) ∷ []) []
left_out h = h

-- 1 false and 2 true is a model in which 2 is true
found : IsModelUnder log (yes 2 ∷ []) (false ∷ true ∷ [])
found = record { variables = refl; model = model; assumed = assumed }
  where
    model : IsModel (value_of (false ∷ true ∷ [])) both
    model zero d within = (0, no 1, lit< tt, refl, refl)
    model (suc zero) d within = (0, no 1, lit< tt, refl, refl)
    model (suc (suc k)) d within = absurd (omega arith)

    assumed : All (IsTrueLiteral (value_of (false ∷ true ∷ []))) (yes 2 ∷ [])
    assumed zero d within = refl
    assumed (suc k) d within = absurd (omega arith)
