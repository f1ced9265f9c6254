-- True literals that grow under the clauses, and what they leave unset.
use Rattle.std.proofs.Common.{◌≡◌, ℕ, ◌+◌, ◌-◌, ◌<◌, ◌≤◌, inl, inr, Bool, true, false, List, [], ◌∷◌, length, take, map, refl, ap, sym, subst, ◌∙◌}
use Rattle.std.proofs.Common.{arith, length-take}
use Rattle.std.specs.List.{All, Contains}
use Rattle.std.proofs.lemmas.Bool.{cases_eq, false≢true, true≢false}
use Rattle.std.proofs.lemmas.List.{length_push, get_or-take}
use Rattle.std.proofs.lemmas.List.Elements.{All-nil, All-cons, All-head, All-tail, All-weaker, All-contains, All-map}
use Rattle.dist_clause.specs.Formula.{Literal, negation}
use Rattle.dist_clause.specs.ClauseList.{clause_at}
use Rattle.dist_derive.specs.TrueLiterals.{LiteralList, HasOutcome}
use Rattle.dist_derive.specs.HintsPrivate.{TakesHint}
use Rattle.dist_derive.specs.declared.true_literals.Outcome.{Outcome}
use Rattle.dist_derive.specs.declared.true_literals.Outcome.TheVariants.{Conflict, Unit as UnitClause, Open}
use Rattle.dist_derive.specs.declared.propagation.Sweep.TheVariants.{Settled}
use Rattle.dist_derive.specs.Propagation.{IsUnset, AllFalse, IsConsistent, IsPropagated}
use Rattle.dist_derive.specs.New.{LeavesUnset}
use Rattle.dist_derive.specs.ContainmentPrivate.{ContainsAll}
use Rattle.dist_derive.specs.SweepPrivate.{IsForced, IsRefuted, AllOpen, Propagates, Sweeps}
use Rattle.dist_derive.proofs.LiteralLemmas.{contains_or_not}
use Rattle.dist_derive.proofs.OutcomeLemmas.{all_false_with}
use Rattle.dist_derive.proofs.AssumeLemmas.{ContainsAll-then}
use Rattle.dist_derive.proofs.WaitLemmas.{Propagates-none, Propagates-then, Propagates-hint, refuted_before, refuted_hint}

-- a walk over the clauses with numbers above `first` has come to a place
pub record SweepsSoFar (clauses : List (List Literal)) (last first place : ℕ) (start now : LiteralList) (grown : Bool) : Type 0 where
  pub grows : Propagates (take last clauses) start now
  pub still : grown ≡ false → (now ≡ start) × ((number : ℕ) → first < number → number ≤ place
      → HasOutcome start.literals (clause_at clauses number) Open)
  pub more : grown ≡ true → (length start.literals < length now.literals) × (length now.literals ≤ now.variables)

module _ (clauses : List (List Literal)) (last first : ℕ) where
  pub sweeps_none : (s : LiteralList) → SweepsSoFar clauses last first first s s false
  sweeps_none s = record {
    grows = Propagates-none (take last clauses) s;
    still = λ _. (refl, λ number above to. absurd (omega arith));
    more = λ e. absurd (false≢true e);
  }

  module _ (enough : last ≤ length clauses) (place : ℕ) (within : place < last) (start now next : LiteralList) (grown : Bool)
      (h : SweepsSoFar clauses last first place start now grown) where
    grows_more : (o : Outcome) → TakesHint clauses now next (place + 1) o → Propagates (take last clauses) start next
    grows_more o taken = Propagates-then (take last clauses) start now next h.grows
        (Propagates-hint clauses last enough now next (place + 1) o taken (omega arith))

    pub sweeps_open : TakesHint clauses now next (place + 1) Open → SweepsSoFar clauses last first (place + 1) start next grown
    sweeps_open taken = record {
      grows = grows_more Open taken;
      still = λ e.
          let was = h.still e in (
            taken.0 ∙ was.0,
            λ number above to. elim (cases_eq number (place + 1)) [
              | inl same ↦ subst (λ n. HasOutcome start.literals (clause_at clauses n) Open) (sym same)
                  (subst (λ (s : LiteralList). HasOutcome s.literals (clause_at clauses (place + 1)) Open) was.0 (taken.1 (omega arith, omega arith)))
              | inr other ↦ was.1 number above (omega arith)
            ],
          );
      more = λ e.
          let grew = h.more e in
          let same = taken.0 in
          (subst (λ (s : LiteralList). (length start.literals < length s.literals) × (length s.literals ≤ s.variables)) (sym same) grew);
    }

    pub sweeps_unit : (l : Literal) → TakesHint clauses now next (place + 1) (UnitClause l) → SweepsSoFar clauses last first (place + 1) start next true
    sweeps_unit l taken = record {
      grows = grows_more (UnitClause l) taken;
      still = λ e. absurd (true≢false e);
      more = λ _. (
        omega (arith, h.grows.longer, ap (λ (s : LiteralList). length s.literals) taken.0, length_push now.literals l),
        taken.3,
      );
    }

    pub sweeps_conflict : TakesHint clauses now next (place + 1) Conflict → IsRefuted (take last clauses) start.literals
    sweeps_conflict taken = refuted_before (take last clauses) start now h.grows
        (refuted_hint clauses last enough now next (place + 1) taken (omega arith))

  pub sweeps_all : (enough : last ≤ length clauses) (place : ℕ) (start now : LiteralList) → last ≤ place → SweepsSoFar clauses last first place start now false
      → Sweeps (take last clauses) first start now Settled
  sweeps_all enough place start now all h =
      let still = h.still refl in (
        still.0,
        λ number above to.
            let long = length-take last clauses in
            let open_at = still.1 number above (omega arith) in
            let same = get_or-take last clauses (number - 1) [] (omega arith) in
            subst (λ clause. HasOutcome now.literals clause Open) (sym same)
            (subst (λ (s : LiteralList). HasOutcome s.literals (clause_at clauses number) Open) (sym still.0) open_at),
      )

-- where no clause is false or unit, all is propagated
pub open_propagated : (trues clause : List Literal) → HasOutcome trues clause Open → IsPropagated trues clause
open_propagated trues clause is_open = λ l here others.
    elim (contains_or_not trues l) [
      | inl is_true ↦ is_true
      | inr not_true ↦ elim (contains_or_not trues (negation l)) [
        | inl is_false ↦ absurd (is_open.0 (all_false_with trues clause l others is_false))
        | inr not_false ↦ absurd (is_open.1 l (record { member = here; unset = (not_true, not_false); others = others }))
      ]
    ]

module _ (clauses : List (List Literal)) (assumptions : List Literal) (first : Literal) (rest assumed ended : List Literal) where
  holds_denied : (trues : List Literal) → LeavesUnset clauses assumptions first rest trues → ContainsAll trues (map negation rest)
  holds_denied trues t = All-map (Contains trues) negation rest t.denied

  pub unset_refused : ((trues : List Literal) → ContainsAll trues assumptions → ContainsAll trues (map negation rest) → ¬ IsConsistent trues)
      → (trues : List Literal) → ¬ LeavesUnset clauses assumptions first rest trues
  unset_refused refused trues t = refused trues t.assumed (holds_denied trues t) t.settled.consistent

  pub unset_refuted : ((trues : List Literal) → ContainsAll trues assumptions → ContainsAll trues (map negation rest) → ContainsAll trues assumed)
      → IsRefuted clauses assumed → (trues : List Literal) → ¬ LeavesUnset clauses assumptions first rest trues
  unset_refuted least refuted trues t = refuted trues (least trues t.assumed (holds_denied trues t)) t.settled.propagated t.settled.no_conflict

  pub unset_at_end : ((trues : List Literal) → ContainsAll trues assumptions → ContainsAll trues (map negation rest) → ContainsAll trues assumed)
      → IsForced clauses assumed ended → (trues : List Literal) → LeavesUnset clauses assumptions first rest trues → IsUnset ended first
  unset_at_end least forced trues t =
      let all = forced trues (least trues t.assumed (holds_denied trues t)) t.settled.propagated in
      (λ h. t.unset.0 (All-contains (Contains trues) ended first all h), λ h. t.unset.1 (All-contains (Contains trues) ended (negation first) all h))

  pub leaves_unset_end : ContainsAll assumed assumptions → ContainsAll assumed (map negation rest) → ContainsAll ended assumed → AllOpen ended clauses
      → IsConsistent ended → IsUnset ended first → LeavesUnset clauses assumptions first rest ended
  leaves_unset_end assumptions_in denied_in kept_end all_open consistent unset = record {
    settled = record {
      consistent = consistent;
      no_conflict = All-weaker (λ c. HasOutcome ended c Open) (λ c. ¬ AllFalse ended c) (λ c o. o.0) clauses all_open;
      propagated = All-weaker (λ c. HasOutcome ended c Open) (IsPropagated ended) (λ c o. open_propagated ended c o) clauses all_open;
    };
    assumed = ContainsAll-then assumptions assumed ended assumptions_in kept_end;
    denied = map-All (Contains ended) negation rest (ContainsAll-then (map negation rest) assumed ended denied_in kept_end);
    unset = unset;
  }
    where
      map-All : {X Y : Type 0} (P : Y → Type 0) (f : X → Y) (xs : List X) → All P (map f xs) → All (λ x. P (f x)) xs
      map-All P f [] h = All-nil (λ x. P (f x))
      map-All P f (x ∷ xs) h = All-cons (λ y. P (f y)) x xs (All-head P (f x) (map f xs) h) (map-All P f xs (All-tail P (f x) (map f xs) h))
