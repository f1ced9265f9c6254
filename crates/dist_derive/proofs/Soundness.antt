-- What follows by hints is true in every model.
use mathlib.Core.Bool.{beq}
use Rattle.std.proofs.Common.{◌≡◌, ℕ, zero, suc, ◌+◌, ◌-◌, ◌≤◌, ◌⊎◌, ⊎_elim, inl, inr, Bool, List, [], ◌∷◌, ◌++◌, length, get_or, take, map, refl, sym, subst}
use Rattle.std.proofs.Common.{◌∙◌, arith}
use Rattle.std.specs.List.{All}
use Rattle.std.proofs.lemmas.Bool.{cases_lt, cases_Bool}
use Rattle.std.proofs.lemmas.List.{take_all}
use Rattle.std.proofs.lemmas.List.Elements.{All-nil, All-cons, All-push, All-map, All-get_or, All-contains, All-more}
use Rattle.dist_clause.specs.Formula.{Literal, negation, IsTrueLiteral, MakesTrue, IsModel}
use Rattle.dist_clause.specs.ClauseList.{clause_at}
use Rattle.dist_derive.specs.Propagation.{IsFalse, AllFalse, IsUnit}
use Rattle.dist_derive.specs.Follows.{IsNumberOf, EndsFalse, Follows, EachLineFollows}
use Rattle.dist_derive.proofs.LiteralLemmas.{same_or_not}
use Rattle.dist_derive.proofs.OutcomeLemmas.{other_false}
use Rattle.dist_derive.proofs.ValuedLemmas.{not-itself, other-is_not, beq-true, beq-false}

module _ (value : ℕ → Bool) where
  negation_false : (l : Literal) → IsTrueLiteral value l → ¬ IsTrueLiteral value (negation l)
  negation_false l h g = not-itself l.positive (sym g ∙ h)

  -- under true literals that are true in the assignment, no literal of the clause that is true in it is false
  not_false : (trues : List Literal) (l : Literal) → All (IsTrueLiteral value) trues → IsTrueLiteral value l → ¬ IsFalse trues l
  not_false trues l all h f = negation_false l h (All-contains (IsTrueLiteral value) trues (negation l) all f)

  not_all_false : (trues clause : List Literal) → All (IsTrueLiteral value) trues → MakesTrue value clause → ¬ AllFalse trues clause
  not_all_false trues clause all made h =
      not_false trues made.1 all made.4 (subst (λ l. IsFalse trues l) made.3 (h made.0 made.1 made.2))

  unit_true : (trues clause : List Literal) (l : Literal) → All (IsTrueLiteral value) trues → MakesTrue value clause → IsUnit trues clause l
      → IsTrueLiteral value l
  unit_true trues clause l all made u = elim (same_or_not made.1 l) [
    | inl same ↦ subst (λ m. IsTrueLiteral value m) same made.4
    | inr other ↦ absurd (not_false trues made.1 all made.4 (other_false trues clause l made.1 u.others (made.0, made.2, made.3) other))
  ]

  made_true : (clauses : List (List Literal)) (number : ℕ) → IsModel value clauses → IsNumberOf clauses number → MakesTrue value (clause_at clauses number)
  made_true clauses number model is = All-get_or (MakesTrue value) clauses (number - 1) [] (omega (arith, is.0, is.1)) model

  ends_false_sound : (clauses : List (List Literal)) (trues : List Literal) (hints : List ℕ) → IsModel value clauses → All (IsTrueLiteral value) trues
      → ¬ EndsFalse clauses trues hints
  ends_false_sound clauses trues [] model all h = h
  ends_false_sound clauses trues (hint ∷ hints) model all h =
      let made = made_true clauses hint model h.0 in
      ⊎_elim (λ x. not_all_false trues (clause_at clauses hint) all made x.0)
      (λ x. ends_false_sound clauses (trues ++ x.0 ∷ []) hints model
      (All-push (IsTrueLiteral value) trues x.0 all (unit_true trues (clause_at clauses hint) x.0 all made x.1)) x.2)
      h.1

  made_or_denied : (clause : List Literal) → MakesTrue value clause ⊎ All (λ l. IsTrueLiteral value (negation l)) clause
  made_or_denied [] = inr (All-nil (λ l. IsTrueLiteral value (negation l)))
  made_or_denied (l ∷ rest) = elim (cases_Bool (beq (value l.variable) l.positive)) [
    | inl e ↦ inl (0, l, omega arith, refl, beq-true (value l.variable) l.positive e)
    | inr e ↦ ⊎_elim (λ made. inl (suc made.0, made.1, omega (arith, made.2), made.3, made.4))
        (λ denied. inr (All-cons (λ m. IsTrueLiteral value (negation m)) l rest
        (other-is_not (value l.variable) l.positive (beq-false (value l.variable) l.positive e)) denied))
        (made_or_denied rest)
  ]

  pub follows_sound : (clauses : List (List Literal)) (clause : List Literal) (hints : List ℕ) → Follows clauses clause hints → IsModel value clauses
      → MakesTrue value clause
  follows_sound clauses clause hints h model = ⊎_elim (λ made. made)
      (λ denied. absurd (ends_false_sound clauses (map negation clause) hints model (All-map (IsTrueLiteral value) negation clause denied) h))
      (made_or_denied clause)

  models_up_to : (inputs : ℕ) (clauses : List (List Literal)) → EachLineFollows inputs clauses → IsModel value (take inputs clauses) → (more : ℕ)
      → inputs + more ≤ length clauses → IsModel value (take (inputs + more) clauses)
  models_up_to inputs clauses each model zero within = subst (λ n. IsModel value (take n clauses)) (let e : inputs ≡ inputs + 0 = omega arith in e) model
  models_up_to inputs clauses each model (suc more) within =
      let before = models_up_to inputs clauses each model more (omega arith) in
      let number = inputs + more + 1 in
      let line = each number (omega arith) (omega arith) in
      let place : number - 1 ≡ inputs + more = omega arith in
      let from_before = subst (λ n. IsModel value (take n clauses)) (sym place) before in
      let made = follows_sound (take (number - 1) clauses) (clause_at clauses number) line.0 line.1 from_before in
      let here = subst (λ k. MakesTrue value (get_or clauses k [])) place made in
      let all = All-more (MakesTrue value) clauses (inputs + more) [] (omega arith) before here in
      subst (λ n. IsModel value (take n clauses)) (let e : inputs + more + 1 ≡ inputs + suc more = omega arith in e) all

  pub models_of_inputs : (inputs : ℕ) (clauses : List (List Literal)) → EachLineFollows inputs clauses → IsModel value (take inputs clauses)
      → IsModel value clauses
  models_of_inputs inputs clauses each model = elim (cases_lt (length clauses) inputs) [
    | inl past ↦ subst (λ cs. IsModel value cs) (take_all inputs clauses (omega arith)) model
    | inr within ↦
        let all = models_up_to inputs clauses each model (length clauses - inputs) (omega arith) in
        subst (λ cs. IsModel value cs) (take_all (inputs + (length clauses - inputs)) clauses (omega arith)) all
  ]
