-- A step of the walk down the trail: past a literal that was not met, and past one whose negation is kept.
use Rattle.std.proofs.Common.{◌≡◌, ◌≢◌, ℕ, ◌+◌, ◌<◌, ◌≤◌, ◌⊎◌, ⊎_elim, inl, inr, List, [], ◌∷◌, ◌++◌, length, get_or, take, refl, ap, sym, subst, ◌∙◌, arith}
use Rattle.std.specs.List.{AllPairs, Contains}
use Rattle.std.proofs.lemmas.Bool.{cases_eq, cases_lt}
use Rattle.std.proofs.lemmas.List.Elements.{All-nil, All-push, All-weaker, Contains-push, Contains-push_cases, Contains-append_left}
use Rattle.std.proofs.lemmas.List.Quantifiers.{all_pairs_push}
use Rattle.dist_clause.specs.Formula.{Literal, negation}
use Rattle.dist_derive.specs.ClauseLog.{ClauseLog}
use Rattle.dist_derive.specs.Propagation.{IsFalse}
use Rattle.dist_search.specs.Trail.{TrailState, literal_at}
use Rattle.dist_search.specs.AnalysisPrivate.{WalkState, Resolves, AreKept, IsPending, IsFound, LeadsToPoint, IsWalked}
use Rattle.dist_search.proofs.PlaceLemmas.{negation-twice, negated, same_variable, contains_front, front_more, front_all, front_next}
use Rattle.dist_search.proofs.PlaceLemmas.{same_literal, not_before}

-- what is kept does not say so less at an earlier place
pub kept_before : (assumptions : List Literal) (trail : TrailState) (place : ℕ) (clause : List Literal) → AreKept assumptions trail (place + 1) clause
    → AreKept assumptions trail place clause
kept_before assumptions trail place clause h = record {
  behind = All-weaker (λ l. IsFalse trail.literals l × (¬ IsFalse (take (place + 1) trail.literals) l))
      (λ l. IsFalse trail.literals l × (¬ IsFalse (take place trail.literals) l))
      (λ l k. (k.0, λ f. k.1 (front_more trail.literals place (place + 1) (negation l) (omega arith) f))) clause h.behind;
  distinct = h.distinct;
  falling = h.falling;
  assumed = h.assumed;
}

-- the literal at a place
module _ (trues : List Literal) (place : ℕ) (t : Literal) (within : place < length trues) (is : literal_at trues place ≡ t) where
  pub stands : Contains (take (place + 1) trues) t
  stands = subst (λ x. Contains (take (place + 1) trues) x) is (contains_front trues (place + 1) place (omega arith) within)

  pub next : (m : Literal) → Contains (take (place + 1) trues) m → Contains (take place trues) m ⊎ (t ≡ m)
  next m h = ⊎_elim (λ f. inl f) (λ e. inr (sym is ∙ e)) (front_next trues place m within h)

  pub none_before : AllPairs (λ l m. l.variable ≢ m.variable) trues → (k : ℕ) (m : Literal) → k ≤ place → m.variable ≡ t.variable
      → ¬ Contains (take k trues) m
  none_before apart k m before e =
      not_before trues apart k place m before within (e ∙ sym (same_variable (literal_at trues place) t is))

module _ (log : ClauseLog) (assumptions : List Literal) (trail : TrailState) (current place : ℕ) (walk : WalkState) (t : Literal)
    (within : place < length trail.literals) (is : literal_at trail.literals place ≡ t)
    (h : IsWalked log assumptions trail current (place + 1) walk) where
  -- past a literal that was not met
  module _ (unmet : ¬ Contains walk.members t.variable) where
    skip_resolves : Resolves log assumptions trail.literals place walk
    skip_resolves = record {
      resolvent = h.resolves.resolvent;
      has = λ l. (
        λ e. ⊎_elim
            (λ c. inl c)
            (λ m. ⊎_elim
            (λ f. inr (m.0, f))
            (λ same. absurd (unmet (subst (Contains walk.members) (sym (same_variable t (negation l) same)) m.0)))
            (next trail.literals place t within is (negation l) m.1))
            ((h.resolves.has l).0 e),
        λ e. (h.resolves.has l).1 (⊎_elim
            (λ c. inl c)
            (λ m. inr (m.0, front_more trail.literals place (place + 1) (negation l) (omega arith) m.1))
            e),
      );
      safe = h.resolves.safe;
      ends = λ given all among. h.resolves.ends given all (λ l e. ⊎_elim
          (λ f. inl (front_more trail.literals place (place + 1) l (omega arith) f))
          (λ g. inr g)
          (among l e));
    }

    skip_pending : IsPending trail.literals current (place + 1) walk → IsPending trail.literals current place walk
    skip_pending p = record {
      none = p.none;
      here = p.here;
      late = p.late;
      before = elim (cases_eq p.here place) [
        | inl same ↦ absurd (unmet (subst (λ (x : Literal). Contains walk.members x.variable) is
            (subst (λ k. Contains walk.members (literal_at trail.literals k).variable) same p.met)))
        | inr other ↦ omega (arith, p.before)
      ];
      within = p.within;
      met = p.met;
    }

    skip_found : IsFound trail.literals current (place + 1) walk → IsFound trail.literals current place walk
    skip_found f = record {
      first = f.first;
      rest = f.rest;
      is = f.is;
      late = f.late;
      early = f.early;
      none_left = λ k from before inside. f.none_left k from (omega arith) inside;
    }

    pub point_past : LeadsToPoint trail.literals current (place + 1) walk → LeadsToPoint trail.literals current place walk
    point_past = ⊎_elim (λ p. inl (skip_pending p)) (λ f. inr (skip_found f))

    pub walked_past : IsWalked log assumptions trail current place walk
    walked_past = record {
      same_variables = h.same_variables;
      resolves = skip_resolves;
      kept = kept_before assumptions trail place walk.clause h.kept;
      met = h.met;
      short = omega (arith, h.short);
    }

  -- past a literal whose negation is kept
  module _ (apart : AllPairs (λ l m. l.variable ≢ m.variable) trail.literals) (front : take (length assumptions) trail.literals ≡ assumptions)
      (met : Contains walk.members t.variable) (assumed : trail.starts ≡ [] → place < length assumptions)
      (last : current ≤ place → (place ≡ current) ⊎ (place ≤ walk.lowest)) where
    -- the negation is in the resolvent
    false_here : IsFalse (take (place + 1) trail.literals) (negation t)
    false_here = subst (λ x. Contains (take (place + 1) trail.literals) x) (sym (negation-twice t)) (stands trail.literals place t within is)

    free_before : ¬ IsFalse (take place trail.literals) (negation t)
    free_before = none_before trail.literals place t within is apart place (negation (negation t)) (omega arith) refl

    keep_resolves : Resolves log assumptions trail.literals place (record walk { clause = walk.clause ++ negation t ∷ [] })
    keep_resolves = record {
      resolvent = h.resolves.resolvent;
      has = λ l. (
        λ e. ⊎_elim
            (λ c. inl (Contains-append_left walk.clause (negation t ∷ []) l c))
            (λ m. ⊎_elim
            (λ f. inr (m.0, f))
            (λ same. inl (subst (λ x. Contains (walk.clause ++ negation t ∷ []) x) (sym (negated t l same)) (Contains-push walk.clause (negation t))))
            (next trail.literals place t within is (negation l) m.1))
            ((h.resolves.has l).0 e),
        λ e. ⊎_elim
            (λ c. ⊎_elim
            (λ before. (h.resolves.has l).1 (inl before))
            (λ same. subst (λ x. Contains h.resolves.resolvent x) same ((h.resolves.has (negation t)).1 (inr (met, false_here))))
            (Contains-push_cases walk.clause (negation t) l c))
            (λ m. (h.resolves.has l).1 (inr (m.0, front_more trail.literals place (place + 1) (negation l) (omega arith) m.1)))
            e,
      );
      safe = h.resolves.safe;
      ends = λ given all among. h.resolves.ends given all (λ l e. ⊎_elim
          (λ f. inl (front_more trail.literals place (place + 1) l (omega arith) f))
          (λ g. ⊎_elim
          (λ c. ⊎_elim
          (λ before. inr (inl before))
          (λ same. inl (subst (λ x. Contains (take (place + 1) trail.literals) x) (negated_back l same) (stands trail.literals place t within is)))
          (Contains-push_cases walk.clause (negation t) (negation l) c))
          (λ a. inr (inr a))
          g)
          (among l e));
    }
      where
        negated_back : (l : Literal) → negation t ≡ negation l → t ≡ l
        negated_back l same = sym (negation-twice t) ∙ (ap negation same ∙ negation-twice l)

    keep_kept : AreKept assumptions trail place (walk.clause ++ negation t ∷ [])
    keep_kept = record {
      behind = All-push (λ l. IsFalse trail.literals l × (¬ IsFalse (take place trail.literals) l)) walk.clause (negation t)
          (kept_before assumptions trail place walk.clause h.kept).behind
          (front_all trail.literals (place + 1) (negation (negation t)) false_here, free_before);
      distinct = all_pairs_push (λ l m. l.variable ≢ m.variable) walk.clause (negation t) h.kept.distinct (λ k d inside.
          let l = get_or walk.clause k d in
          let b = h.kept.behind k d inside in
          λ e. b.1 (subst (λ x. Contains (take (place + 1) trail.literals) x)
          (same_literal trail.literals apart t (negation l) (front_all trail.literals (place + 1) t (stands trail.literals place t within is)) b.0 (sym e))
          (stands trail.literals place t within is)));
      falling = all_pairs_push (λ l m. (k : ℕ) → IsFalse (take k trail.literals) l → IsFalse (take k trail.literals) m) walk.clause (negation t)
          h.kept.falling (λ k d inside.
          let l = get_or walk.clause k d in
          let b = h.kept.behind k d inside in
          λ j f. elim (cases_lt place j) [
            | inl behind ↦ front_more trail.literals (place + 1) j (negation (negation t)) (omega arith) false_here
            | inr before ↦ absurd (b.1 (front_more trail.literals j (place + 1) (negation l) (omega arith) f))
          ]);
      assumed = λ none. All-push (IsFalse assumptions) walk.clause (negation t) (h.kept.assumed none)
          (subst (λ x. Contains assumptions x) (is ∙ sym (negation-twice t)) (subst (λ xs. Contains xs (literal_at trail.literals place)) front
          (contains_front trail.literals (length assumptions) place (assumed none) within)));
    }

    keep_pending : IsPending trail.literals current (place + 1) walk
        → IsFound trail.literals current place (record walk { clause = walk.clause ++ negation t ∷ [] })
    keep_pending p = record {
      first = negation t;
      rest = [];
      is = ap (λ xs. xs ++ negation t ∷ []) p.none;
      late = none_before trail.literals place t within is apart current (negation (negation t)) (omega (arith, p.late, p.before)) refl;
      early = All-nil (IsFalse (take current trail.literals));
      none_left = λ k from before inside m. ⊎_elim
          (λ same. absurd (omega arith))
          (λ low. absurd (omega (arith, h.met.lowest k inside m from)))
          (last (omega arith));
    }

    keep_found : IsFound trail.literals current (place + 1) walk
        → IsFound trail.literals current place (record walk { clause = walk.clause ++ negation t ∷ [] })
    keep_found f =
        let early : place < current = elim (cases_lt place current) [
          | inl before ↦ before
          | inr late ↦ absurd (f.none_left place late (omega arith) within
              (subst (λ (x : Literal). Contains walk.members x.variable) (sym is) met))
        ] in
        record {
          first = f.first;
          rest = f.rest ++ negation t ∷ [];
          is = ap (λ xs. xs ++ negation t ∷ []) f.is;
          late = f.late;
          early = All-push (IsFalse (take current trail.literals)) f.rest (negation t) f.early
              (front_more trail.literals (place + 1) current (negation (negation t)) (omega arith) false_here);
          none_left = λ k from before inside. absurd (omega arith);
        }

    pub point_kept : LeadsToPoint trail.literals current (place + 1) walk
        → LeadsToPoint trail.literals current place (record walk { clause = walk.clause ++ negation t ∷ [] })
    point_kept = ⊎_elim (λ p. inr (keep_pending p)) (λ f. inr (keep_found f))

    pub walked_kept : IsWalked log assumptions trail current place (record walk { clause = walk.clause ++ negation t ∷ [] })
    walked_kept = record {
      same_variables = h.same_variables;
      resolves = keep_resolves;
      kept = keep_kept;
      met = record { earliest = h.met.earliest; lowest = h.met.lowest; attained = h.met.attained };
      short = omega (arith, h.short);
    }
