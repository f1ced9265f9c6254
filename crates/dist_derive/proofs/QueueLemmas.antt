-- Propagation by a queue of true literals.
use Rattle.std.proofs.Common.{◌≡◌, ℕ, ◌⊎◌, ⊎_elim, inl, inr, ◌+◌, ◌-◌, ◌<◌, ◌≤◌, List, [], length, length-take, get_or, take, refl, ap, sym, subst, ◌∙◌, arith}
use Rattle.std.proofs.lemmas.Bool.{cases_lt}
use Rattle.std.proofs.lemmas.List.{get_or-take}
use Rattle.std.proofs.lemmas.List.Elements.{All-from_get_or}
use Rattle.dist_clause.specs.Formula.{Literal, negation}
use Rattle.dist_clause.specs.ClauseList.{clause_at}
use Rattle.dist_derive.specs.TrueLiterals.{LiteralList, HasOutcome}
use Rattle.dist_derive.specs.declared.true_literals.Outcome.TheVariants.{Open}
use Rattle.dist_derive.specs.declared.occurrences.Link.{Link}
use Rattle.dist_derive.specs.OccurrencesPrivate.{OccurrenceLists, code_of, link_at, Lists, IsIndexOf}
use Rattle.dist_derive.specs.SweepPrivate.{AllOpen, Waits, AllWait, Propagates, Sweeps}
use Rattle.dist_derive.specs.declared.propagation.Sweep.TheVariants.{Settled}
use Rattle.dist_derive.proofs.OccurrenceLemmas.{Lists-cases}
use Rattle.dist_derive.proofs.WaitLemmas.{Waits-end, Waits-next, Propagates-none, Propagates-then}

-- a walk along a list has come to a place: each clause of the list waits, or is still to come
pub record VisitsSoFar (clauses : List (List Literal)) (last : ℕ) (links : List Link) (latest place : ℕ) (start now : LiteralList) : Type 0 where
  pub grows : Propagates (take last clauses) start now
  pub waiting : (number done : ℕ) → Lists links latest number → number ≤ last → done ≤ length start.literals
      → Waits now.literals done (clause_at clauses number) ⊎ Lists links place number

module _ (clauses : List (List Literal)) (last : ℕ) (links : List Link) (latest : ℕ) where
  pub visits_none : (s : LiteralList) → VisitsSoFar clauses last links latest latest s s
  visits_none s = record { grows = Propagates-none (take last clauses) s; waiting = λ number done listed to taken. inr listed }

  pub visits_more : (place : ℕ) (start now next : LiteralList) (link : Link) → VisitsSoFar clauses last links latest place start now
      → link ≡ link_at links place → Propagates (take last clauses) now next
      → (link.number ≤ last → HasOutcome next.literals (clause_at clauses link.number) Open)
      → VisitsSoFar clauses last links latest link.next start next
  visits_more place start now next link h is step opened = record {
    grows = Propagates-then (take last clauses) start now next h.grows step;
    waiting = λ number done listed to taken. ⊎_elim
        (λ w. inl (step.waiting done (clause_at clauses number) (omega (arith, h.grows.longer, taken)) w))
        (λ left. ⊎_elim
        (λ same. let e : link.number ≡ number = ap (λ (l : Link). l.number) is ∙ same in
        inl (inl (subst (λ n. HasOutcome next.literals (clause_at clauses n) Open) e (opened (omega arith)))))
        (λ behind. inr (subst (λ n. Lists links n number) (sym (ap (λ (l : Link). l.next) is)) behind))
        (Lists-cases links place number left))
        (h.waiting number done listed to taken);
  }

-- the true literals before a place are taken
pub record TakesSoFar (clauses : List (List Literal)) (last : ℕ) (index : OccurrenceLists) (start now : LiteralList) (done : ℕ) : Type 0 where
  pub grows : Propagates (take last clauses) start now
  pub waiting : AllWait index clauses last now.literals done

module _ (clauses : List (List Literal)) (last : ℕ) (index : OccurrenceLists) (is_index : IsIndexOf index clauses) where
  pub takes_more : (start now next : LiteralList) (done : ℕ) (l : Literal) → TakesSoFar clauses last index start now done → done < length now.literals
      → l ≡ get_or now.literals done l → Propagates (take last clauses) now next
      → ((number d : ℕ) → Lists index.links (get_or index.heads (code_of (negation l)) 0) number → number ≤ last → d ≤ length now.literals
      → Waits next.literals d (clause_at clauses number))
      → TakesSoFar clauses last index start next (done + 1)
  takes_more start now next done l h within is step visited = record {
    grows = Propagates-then (take last clauses) start now next h.grows step;
    waiting = λ number from covered to. ⊎_elim
        (λ w. step.waiting (done + 1) (clause_at clauses number) (omega arith) w)
        (λ here. visited number (done + 1)
        (is_index.complete number (code_of (negation l)) from covered (inr (negation l, here, refl))) to (omega arith))
        (Waits-next now.literals (clause_at clauses number) done l within is (h.waiting number from covered to));
  }

  pub takes_all : (start now : LiteralList) (done : ℕ) → TakesSoFar clauses last index start now done → length now.literals ≤ done
      → AllWait index clauses last now.literals (length now.literals)
  takes_all start now done h end = λ number from covered to.
      inl (Waits-end now.literals (clause_at clauses number) done end (h.waiting number from covered to))

  -- at the end of a walk in which nothing grew, no clause is false or unit
  pub settled_end : (first : ℕ) (mid end : LiteralList) → first ≡ index.covered → Sweeps (take last clauses) first mid end Settled
      → AllWait index clauses last mid.literals (length mid.literals) → last ≤ length clauses → AllOpen end.literals (take last clauses)
  settled_end first mid end same found waiting enough = All-from_get_or (λ c. HasOutcome end.literals c Open) (take last clauses) [] (λ k within.
      let place : k + 1 - 1 ≡ k = omega arith in
      let before : k < last = omega (arith, within, length-take last clauses) in
      elim (cases_lt first (k + 1)) [
        | inl above ↦ subst (λ i. HasOutcome end.literals (get_or (take last clauses) i []) Open) place (found.1 (k + 1) above (omega (arith, within)))
        | inr covered ↦
            let w = waiting (k + 1) (omega arith) (omega arith) (omega arith) in
            let o = Waits-end mid.literals (clause_at clauses (k + 1)) (length mid.literals) (omega arith) w in
            let item : clause_at clauses (k + 1) ≡ get_or (take last clauses) k [] =
            ap (λ i. get_or clauses i []) place ∙ sym (get_or-take last clauses k [] before) in
            subst (λ clause. HasOutcome end.literals clause Open) item
            (subst (λ (s : LiteralList). HasOutcome s.literals (clause_at clauses (k + 1)) Open) (sym found.0) o)
      ])
