-- Clauses that wait while true literals are taken one after another.
use Rattle.std.proofs.Common.{◌≡◌, ℕ, ◌⊎◌, ⊎_elim, inl, inr, ◌+◌, ◌-◌, ◌<◌, ◌≤◌, Bool, true, false, not, List, [], ◌∷◌, ◌++◌, length, get_or}
use Rattle.std.proofs.Common.{take, refl, ap, sym, subst, ◌∙◌, arith, length-take}
use Rattle.std.specs.List.{All, Contains}
use Rattle.std.proofs.lemmas.Bool.{cases_eq}
use Rattle.std.proofs.lemmas.List.{length_push, get_or_default, get_or_append_left, get_or_push, get_or-take}
use Rattle.std.proofs.lemmas.List.Elements.{All-push, All-get_or, All-from_get_or, All-contains}
use Rattle.std.proofs.lemmas.List.Elements.{Contains-get_or, Contains-append_left, Contains-push, Contains-push_cases}
use Rattle.dist_clause.specs.Formula.{Literal, literal, negation}
use Rattle.dist_clause.specs.ClauseList.{clause_at}
use Rattle.dist_derive.specs.Propagation.{IsFalse, IsUnset, AllFalse, IsUnit, IsPropagated}
use Rattle.dist_derive.specs.Follows.{IsNumberOf}
use Rattle.dist_derive.specs.TrueLiterals.{LiteralList, HasOutcome}
use Rattle.dist_derive.specs.HintsPrivate.{TakesHint}
use Rattle.dist_derive.specs.declared.true_literals.Outcome.{Outcome}
use Rattle.dist_derive.specs.declared.true_literals.Outcome.TheVariants.{Conflict, Unit as UnitClause, Open}
use Rattle.dist_derive.specs.SweepPrivate.{IsRefuted, IsFalseFrom, Waits, Propagates}
use Rattle.dist_derive.proofs.LiteralLemmas.{same_or_not, contains_or_not}
use Rattle.dist_derive.proofs.OutcomeLemmas.{other_false}
use Rattle.dist_derive.proofs.ValuedLemmas.{not-itself}
use Rattle.dist_derive.proofs.AssumeLemmas.{ContainsAll-itself, ContainsAll-then, ContainsAll-push, take-all, front-then, front-push, AllFalse-more}
use Rattle.dist_derive.proofs.AssumeLemmas.{OthersFalse-more}

not-twice : (b : Bool) → not (not b) ≡ b
not-twice true = refl
not-twice false = refl

pub negation-twice : (l : Literal) → negation (negation l) ≡ l
negation-twice l = ap (literal l.variable) (not-twice l.positive)

-- one true literal more, which was unset
module _ (trues clause : List Literal) (l : Literal) (unset : IsUnset trues l) where
  false_before : (¬ Contains clause (negation l)) → (m : Literal) → Contains clause m → IsFalse (trues ++ l ∷ []) m → IsFalse trues m
  false_before out m here f = ⊎_elim (λ x. x)
      (λ e. absurd (out (subst (λ x. Contains clause x) (sym (ap negation e ∙ negation-twice m)) here)))
      (Contains-push_cases trues l (negation m) f)

  Open-push : (¬ Contains clause (negation l)) → HasOutcome trues clause Open → HasOutcome (trues ++ l ∷ []) clause Open
  Open-push out is_open = (
    λ all. is_open.0 (λ k d within. false_before out (get_or clause k d) (Contains-get_or clause k d within) (all k d within)),
    λ m u. is_open.1 m (record {
      member = u.member;
      unset = (λ h. u.unset.0 (Contains-append_left trues (l ∷ []) m h), λ h. u.unset.1 (Contains-append_left trues (l ∷ []) (negation m) h));
      others = λ k d within other. false_before out (get_or clause k d) (Contains-get_or clause k d within) (u.others k d within other);
    }),
  )

  pub Waits-push : (done : ℕ) → done ≤ length trues → Waits trues done clause → Waits (trues ++ l ∷ []) done clause
  Waits-push done taken h = ⊎_elim
      (λ is_open. elim (contains_or_not clause (negation l)) [
        | inl here ↦ inr (record {
          false_one = negation l;
          member = here;
          place = length trues;
          from_first = taken;
          within = omega (arith, length_push trues l);
          there = get_or_push trues l (negation l) (length trues) refl ∙ sym (negation-twice l);
        })
        | inr out ↦ inl (Open-push out is_open)
      ])
      (λ f. inr (record {
        false_one = f.false_one;
        member = f.member;
        place = f.place;
        from_first = f.from_first;
        within = omega (arith, f.within, length_push trues l);
        there = get_or_append_left trues (l ∷ []) f.false_one f.place f.within ∙ f.there;
      }))
      h

  -- the clause that made the literal true is not false or unit then
  pub Open-made_true : IsUnit trues clause l → HasOutcome (trues ++ l ∷ []) clause Open
  Open-made_true u =
      let not_false : ¬ IsFalse (trues ++ l ∷ []) l = λ f. ⊎_elim (λ x. unset.1 x) (λ e. not-itself l.positive (sym (ap (λ (x : Literal). x.positive) e)))
      (Contains-push_cases trues l (negation l) f) in (
        λ all. not_false (All-contains (IsFalse (trues ++ l ∷ [])) clause l all u.member),
        λ m v. elim (same_or_not l m) [
          | inl same ↦ v.unset.0 (subst (λ x. Contains (trues ++ l ∷ []) x) same (Contains-push trues l))
          | inr other ↦ not_false (other_false (trues ++ l ∷ []) clause m l v.others u.member other)
        ],
      )

pub Waits-end : (trues clause : List Literal) (done : ℕ) → length trues ≤ done → Waits trues done clause → HasOutcome trues clause Open
Waits-end trues clause done all h = ⊎_elim (λ is_open. is_open) (λ f. absurd (omega (arith, f.within, f.from_first))) h

-- where the next true literal is taken, a clause goes on waiting, or has the negation of that literal
pub Waits-next : (trues clause : List Literal) (done : ℕ) (l : Literal) → done < length trues → l ≡ get_or trues done l → Waits trues done clause
    → Waits trues (done + 1) clause ⊎ Contains clause (negation l)
Waits-next trues clause done l within is h = ⊎_elim
    (λ is_open. inl (inl is_open))
    (λ (f : IsFalseFrom trues done clause). elim (cases_eq f.place done) [
      | inl same ↦
          let e : l ≡ negation f.false_one =
          is ∙ (get_or_default trues done l f.false_one within ∙ (sym (ap (λ k. get_or trues k f.false_one) same) ∙ f.there)) in
          inr (subst (λ m. Contains clause m) (sym (ap negation e ∙ negation-twice f.false_one)) f.member)
      | inr later ↦ inl (inr (record {
        false_one = f.false_one;
        member = f.member;
        place = f.place;
        from_first = omega (arith, f.from_first, later);
        within = f.within;
        there = f.there;
      }))
    ])
    h

-- a clause among the first ones, by its number
pub All-number : (P : List Literal → Type 0) (clauses : List (List Literal)) (last number : ℕ) → last ≤ length clauses → 1 ≤ number → number ≤ last
    → All P (take last clauses) → P (clause_at clauses number)
All-number P clauses last number within from to all = subst P (get_or-take last clauses (number - 1) [] (omega arith))
    (All-get_or P (take last clauses) (number - 1) [] (omega (arith, length-take last clauses)) all)

pub All-from_numbers : (P : List Literal → Type 0) (clauses : List (List Literal)) (last : ℕ)
    → ((number : ℕ) → 1 ≤ number → number ≤ last → P (clause_at clauses number)) → All P (take last clauses)
All-from_numbers P clauses last each = All-from_get_or P (take last clauses) [] (λ k within.
    let before : k < last = omega (arith, within, length-take last clauses) in
    let place : k + 1 - 1 ≡ k = omega arith in
    subst P (ap (λ i. get_or clauses i []) place ∙ sym (get_or-take last clauses k [] before)) (each (k + 1) (omega arith) (omega arith)))

pub Propagates-none : (clauses : List (List Literal)) (s : LiteralList) → Propagates clauses s s
Propagates-none clauses s = record {
  same_variables = refl;
  kept = ContainsAll-itself s.literals;
  forced = λ trues all _. all;
  longer = omega arith;
  front = take-all s.literals;
  waiting = λ done clause taken h. h;
}

pub Propagates-then : (clauses : List (List Literal)) (a b c : LiteralList) → Propagates clauses a b → Propagates clauses b c → Propagates clauses a c
Propagates-then clauses a b c first second = record {
  same_variables = second.same_variables ∙ first.same_variables;
  kept = ContainsAll-then a.literals b.literals c.literals first.kept second.kept;
  forced = λ trues all propagated. second.forced trues (first.forced trues all propagated) propagated;
  longer = omega (arith, first.longer, second.longer);
  front = front-then a.literals b.literals c.literals first.front second.front first.longer;
  waiting = λ done clause taken h. second.waiting done clause (omega (arith, first.longer)) (first.waiting done clause taken h);
}

pub refuted_before : (clauses : List (List Literal)) (a b : LiteralList) → Propagates clauses a b → IsRefuted clauses b.literals
    → IsRefuted clauses a.literals
refuted_before clauses a b h refuted = λ trues all propagated no_conflict. refuted trues (h.forced trues all propagated) propagated no_conflict

-- what a hint to one of the first clauses does
module _ (clauses : List (List Literal)) (last : ℕ) (enough : last ≤ length clauses) (old new : LiteralList) (hint : ℕ) where
  pub Propagates-unit : (l : Literal) → new ≡ record old { literals = old.literals ++ l ∷ [] } → 1 ≤ hint → hint ≤ last
      → IsUnit old.literals (clause_at clauses hint) l → Propagates (take last clauses) old new
  Propagates-unit l same from to u =
      let more : LiteralList = record old { literals = old.literals ++ l ∷ [] } in
      subst (λ (s : LiteralList). Propagates (take last clauses) old s) (sym same) (record {
        same_variables = refl;
        kept = ContainsAll-push old.literals l;
        forced = λ trues all propagated. All-push (Contains trues) old.literals l all
            (All-number (IsPropagated trues) clauses last hint enough from to propagated l u.member
            (OthersFalse-more old.literals trues (clause_at clauses hint) l all u.others));
        longer = omega (arith, length_push old.literals l);
        front = front-push old.literals l;
        waiting = λ done clause taken h. Waits-push old.literals clause l u.unset done taken h;
      })

  pub Propagates-hint : (o : Outcome) → TakesHint clauses old new hint o → hint ≤ last → Propagates (take last clauses) old new
  Propagates-hint Conflict h to = subst (λ s. Propagates (take last clauses) old s) (sym h.0) (Propagates-none (take last clauses) old)
  Propagates-hint (UnitClause l) h to = Propagates-unit l h.0 h.1.0 to h.2
  Propagates-hint Open h to = subst (λ s. Propagates (take last clauses) old s) (sym h.0) (Propagates-none (take last clauses) old)

  pub refuted_hint : TakesHint clauses old new hint Conflict → hint ≤ last → IsRefuted (take last clauses) old.literals
  refuted_hint h to = λ trues all propagated no_conflict.
      All-number (λ c. ¬ AllFalse trues c) clauses last hint enough h.1.0 to no_conflict (AllFalse-more old.literals trues (clause_at clauses hint) all h.2)

  pub open_hint : (o : Outcome) → TakesHint clauses old new hint o → IsNumberOf clauses hint → (o ≡ Conflict → ⊥)
      → HasOutcome new.literals (clause_at clauses hint) Open
  open_hint Conflict h is other = absurd (other refl)
  open_hint (UnitClause l) h is other = subst (λ (s : LiteralList). HasOutcome s.literals (clause_at clauses hint) Open) (sym h.0)
      (Open-made_true old.literals (clause_at clauses hint) l h.2.unset h.2)
  open_hint Open h is other = subst (λ (s : LiteralList). HasOutcome s.literals (clause_at clauses hint) Open) (sym h.0) (h.1 is)
