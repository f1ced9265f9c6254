-- One hint after another.
use Rattle.std.proofs.Common.{◌≡◌, ℕ, ◌↔◌, ◌⊎◌, ⊎_elim, inl, inr, Bool, true, false, List, [], ◌∷◌, ◌++◌, ◌+◌, ◌<◌, ◌≤◌, length, get_or, drop, refl, subst, sym}
use Rattle.std.proofs.lemmas.List.{drop_more, drop_all}
use Rattle.std.proofs.lemmas.Bool.{false≢true}
use Rattle.std.proofs.lemmas.List.Elements.{All-push, All-weaker, Contains-append_left}
use Rattle.dist_clause.specs.Formula.{Literal, negation}
use Rattle.dist_clause.specs.ClauseList.{clause_at}
use Rattle.dist_derive.specs.Propagation.{IsFalse, AllFalse, IsUnit}
use Rattle.dist_derive.specs.Follows.{IsNumberOf, EndsFalse}
use Rattle.dist_derive.specs.TrueLiterals.{LiteralList, HasOutcome}
use Rattle.dist_derive.specs.declared.true_literals.Outcome.{Outcome}
use Rattle.dist_derive.specs.declared.true_literals.Outcome.TheVariants.{Conflict, Unit as UnitClause, Open}
use Rattle.dist_derive.specs.HintsPrivate.{TakesHint, AreConflicts}
use Rattle.dist_derive.proofs.OutcomeLemmas.{not_unit, same_unit}

-- the hints that are left end in a false clause, or none is left and the last one's clause was false
abbrev pub EndsFrom : List (List Literal) → List Literal → Bool → List ℕ → Type 0
EndsFrom clauses trues ended hints = ((ended ≡ true) × (hints ≡ [])) ⊎ EndsFalse clauses trues hints

some_left : {X : Type 0} (x : X) (xs : List X) → x ∷ xs ≡ [] → ⊥
some_left x xs e = cc

module _ (clauses : List (List Literal)) (trues : List Literal) (hint : ℕ) (hints : List ℕ) where
  pub ends_conflict : IsNumberOf clauses hint → AllFalse trues (clause_at clauses hint) → EndsFalse clauses trues (hint ∷ hints)
      ↔ EndsFrom clauses trues true hints
  ends_conflict number all = (
    λ h. ⊎_elim (λ x. ⊎_elim (λ none. inl (refl, none)) (λ more. inr more) x.1) (λ x. absurd (not_unit trues (clause_at clauses hint) all x.0 x.1)) h.1,
    λ h. (number, inl (all, ⊎_elim (λ x. inl x.1) (λ more. inr more) h)),
  )

  pub ends_unit : (l : Literal) → IsNumberOf clauses hint → IsUnit trues (clause_at clauses hint) l → EndsFalse clauses trues (hint ∷ hints)
      ↔ EndsFrom clauses (trues ++ l ∷ []) false hints
  ends_unit l number u = (
    λ h. ⊎_elim (λ x. absurd (not_unit trues (clause_at clauses hint) x.0 l u))
        (λ x. inr (subst (λ m. EndsFalse clauses (trues ++ m ∷ []) hints) (same_unit trues (clause_at clauses hint) x.0 l x.1 u) x.2)) h.1,
    λ h. (number, inr (l, u, ⊎_elim (λ x. absurd (false≢true x.0)) (λ more. more) h)),
  )

  pub ends_open : (IsNumberOf clauses hint → HasOutcome trues (clause_at clauses hint) Open) → ¬ EndsFalse clauses trues (hint ∷ hints)
  ends_open is_open h = ⊎_elim (λ x. (is_open h.0).0 x.0) (λ x. (is_open h.0).1 x.0 x.1) h.1

  pub ends_from : (ended : Bool) → EndsFrom clauses trues ended (hint ∷ hints) → EndsFalse clauses trues (hint ∷ hints)
  ends_from ended h = ⊎_elim (λ x. absurd (some_left hint hints x.1)) (λ more. more) h

pub ends_at_end : (clauses : List (List Literal)) (trues : List Literal) (ended : Bool) → EndsFrom clauses trues ended [] ↔ (ended ≡ true)
ends_at_end clauses trues ended = (λ h. ⊎_elim (λ x. x.0) (λ more. absurd more) h, λ e. inl (e, refl))

-- what is left of the hints decides as all of them do
pub record HintsSoFar (clauses : List (List Literal)) (start : List Literal) (hints : List ℕ) (index : ℕ) (trues : List Literal) (ended : Bool) : Type 0 where
  pub decides : EndsFrom clauses trues ended (drop index hints) ↔ EndsFalse clauses start hints

pub hints_none : (clauses : List (List Literal)) (start : List Literal) (hints : List ℕ) → HintsSoFar clauses start hints 0 start false
hints_none clauses start hints = record { decides = (λ h. ⊎_elim (λ x. absurd (false≢true x.0)) (λ more. more) h, λ h. inr h) }

pub hints_more : (clauses : List (List Literal)) (start : List Literal) (hints : List ℕ) (index : ℕ) (trues next : List Literal) (ended now : Bool)
    → index < length hints
    → (EndsFalse clauses trues (get_or hints index 0 ∷ drop (index + 1) hints) ↔ EndsFrom clauses next now (drop (index + 1) hints))
    → HintsSoFar clauses start hints index trues ended → HintsSoFar clauses start hints (index + 1) next now
hints_more clauses start hints index trues next ended now within step h =
    let here = subst (λ left. EndsFrom clauses trues ended left ↔ EndsFalse clauses start hints) (drop_more hints index 0 within) h.decides in
    record { decides = (λ e. here.0 (inr (step.1 e)), λ e. step.0 (ends_from clauses trues (get_or hints index 0) (drop (index + 1) hints) ended (here.1 e))) }

pub hints_refused : (clauses : List (List Literal)) (start : List Literal) (hints : List ℕ) (index : ℕ) (trues : List Literal) (ended : Bool)
    → index < length hints
    → (¬ EndsFalse clauses trues (get_or hints index 0 ∷ drop (index + 1) hints))
    → HintsSoFar clauses start hints index trues ended → ¬ EndsFalse clauses start hints
hints_refused clauses start hints index trues ended within step h e =
    let here = subst (λ left. EndsFrom clauses trues ended left ↔ EndsFalse clauses start hints) (drop_more hints index 0 within) h.decides in
    step (ends_from clauses trues (get_or hints index 0) (drop (index + 1) hints) ended (here.1 e))

pub hints_all : (clauses : List (List Literal)) (start : List Literal) (hints : List ℕ) (index : ℕ) (trues : List Literal) (ended : Bool) → length hints ≤ index
    → HintsSoFar clauses start hints index trues ended → (ended ≡ true) ↔ EndsFalse clauses start hints
hints_all clauses start hints index trues ended past h =
    let here = subst (λ left. EndsFrom clauses trues ended left ↔ EndsFalse clauses start hints) (drop_all index hints past) h.decides in
    let last = ends_at_end clauses trues ended in
    (λ e. here.0 (last.1 e), λ e. last.0 (here.1 e))

-- a hint whose clause is not unit leaves the true literals as they are
pub takes_hint_kept : (clauses : List (List Literal)) (old : LiteralList) (hint : ℕ) (o : Outcome) → IsNumberOf clauses hint
    → HasOutcome old.literals (clause_at clauses hint) o → ((l : Literal) → o ≡ UnitClause l → ⊥) → TakesHint clauses old old hint o
takes_hint_kept clauses old hint Conflict number h not_unit = (refl, number, h)
takes_hint_kept clauses old hint (UnitClause l) number h not_unit = absurd (not_unit l refl)
takes_hint_kept clauses old hint Open number h not_unit = (refl, λ _. h)

-- a clause that is false by now is remembered or not
pub conflicts_more : (clauses : List (List Literal)) (trues : List Literal) (old new : List ℕ) (hint : ℕ) → AreConflicts clauses trues old
    → IsNumberOf clauses hint → AllFalse trues (clause_at clauses hint) → (new ≡ old) ⊎ (new ≡ old ++ hint ∷ []) → AreConflicts clauses trues new
conflicts_more clauses trues old new hint known number all grown = ⊎_elim
    (λ same. subst (λ numbers. AreConflicts clauses trues numbers) (sym same) known)
    (λ more. subst (λ numbers. AreConflicts clauses trues numbers) (sym more)
    (All-push (λ k. IsNumberOf clauses k × AllFalse trues (clause_at clauses k)) old hint known (number, all)))
    grown

-- a clause that was false stays false, whatever a hint makes true
pub conflicts_kept : (clauses : List (List Literal)) (old new : LiteralList) (numbers : List ℕ) (hint : ℕ) (o : Outcome) → TakesHint clauses old new hint o
    → AreConflicts clauses old.literals numbers → AreConflicts clauses new.literals numbers
conflicts_kept clauses old new numbers hint Conflict h known = subst (λ (t : LiteralList). AreConflicts clauses t.literals numbers) (sym h.0) known
conflicts_kept clauses old new numbers hint Open h known = subst (λ (t : LiteralList). AreConflicts clauses t.literals numbers) (sym h.0) known
conflicts_kept clauses old new numbers hint (UnitClause l) h known =
    let trues = old.literals in
    subst (λ (t : LiteralList). AreConflicts clauses t.literals numbers) (sym h.0)
    (All-weaker (λ k. IsNumberOf clauses k × AllFalse trues (clause_at clauses k))
    (λ k. IsNumberOf clauses k × AllFalse (trues ++ l ∷ []) (clause_at clauses k))
    (λ k x. (
      x.0,
      All-weaker (IsFalse trues) (IsFalse (trues ++ l ∷ [])) (λ m false_before. Contains-append_left trues (l ∷ []) (negation m) false_before)
          (clause_at clauses k) x.1,
    ))
    numbers known)
