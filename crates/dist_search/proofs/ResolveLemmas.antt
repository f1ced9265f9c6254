-- A step of the walk down the trail past a literal that is resolved.
use Rattle.std.proofs.Common.{◌≡◌, ◌≢◌, ℕ, ◌+◌, ◌<◌, ◌≤◌, ◌↔◌, ◌⊎◌, ⊎_elim, inl, inr, List, [], ◌∷◌, ◌++◌, length, take, reverse, refl}
use Rattle.std.proofs.Common.{ap, sym, subst, ◌∙◌, arith}
use Rattle.std.specs.List.{AllPairs, Contains}
use Rattle.std.proofs.lemmas.Bool.{cases_lt}
use Rattle.std.proofs.lemmas.List.{reverse-append, length_push}
use Rattle.std.proofs.lemmas.List.Elements.{All-weaker, All-contains, All-contains_itself, Contains-push, Contains-push_cases, Contains-append_left}
use Rattle.std.proofs.lemmas.List.Elements.{Contains-append_right, Contains-append_cases}
use Rattle.dist_clause.specs.Formula.{Literal, negation}
use Rattle.dist_clause.specs.ClauseList.{clause_at}
use Rattle.dist_derive.specs.ClauseLog.{ClauseLog, inputs_of}
use Rattle.dist_derive.specs.Propagation.{IsFalse, AllFalse, IsUnit}
use Rattle.dist_derive.specs.Follows.{IsNumberOf, EndsFalse}
use Rattle.dist_derive.specs.Safe.{AreSafe, IsResolvent}
use Rattle.dist_search.proofs.GuardLiterals.{same_or_not}
use Rattle.dist_search.specs.Trail.{TrailState, literal_at}
use Rattle.dist_search.specs.AnalysisPrivate.{WalkState, Meets, Resolves, AreKept, IsPending, IsFound, LeadsToPoint, IsWalked}
use Rattle.dist_search.proofs.PlaceLemmas.{negation-twice, same_negations, negated, same_variable, front_more, front_all}
use Rattle.dist_search.proofs.PlaceLemmas.{same_literal}
use Rattle.dist_search.proofs.ClauseLemmas.{without}
use Rattle.dist_search.proofs.WalkLemmas.{kept_before, stands, next, none_before}

module _ (log : ClauseLog) (assumptions : List Literal) (trail : TrailState) (current place : ℕ) (walk new : WalkState) (t : Literal) (reason : ℕ)
    (within : place < length trail.literals) (is : literal_at trail.literals place ≡ t)
    (h : IsWalked log assumptions trail current (place + 1) walk)
    (m : Meets trail.literals current (clause_at log.clauses reason) (record walk { hints = walk.hints ++ reason ∷ [] }) new)
    (apart : AllPairs (λ l m. l.variable ≢ m.variable) trail.literals)
    (front : take (length assumptions) trail.literals ≡ assumptions)
    (number : IsNumberOf log.clauses reason) (unit : IsUnit (take place trail.literals) (clause_at log.clauses reason) t)
    (met : Contains walk.members t.variable) (behind : length assumptions ≤ place) (lower : current ≤ place → walk.lowest < place) where
  no_more : (k : ℕ) (l : Literal) → k ≤ place → l.variable ≡ t.variable → ¬ Contains (take k trail.literals) l
  no_more = none_before trail.literals place t within is apart

  here : Contains (take (place + 1) trail.literals) t
  here = stands trail.literals place t within is

  others : (l : Literal) → Contains (clause_at log.clauses reason) l → l ≢ t → IsFalse (take place trail.literals) l
  others l c other = All-contains (λ x. x ≢ t → IsFalse (take place trail.literals) x) (clause_at log.clauses reason) l unit.others c other

  old_clause : (l : Literal) → Contains new.clause l → Contains walk.clause l
  old_clause l c = subst (λ xs. Contains xs l) m.same_clause c

  -- what is kept isn't the literal here, nor its negation
  kept_apart : (l : Literal) → Contains walk.clause l → l.variable ≢ t.variable
  kept_apart l c e =
      let b = All-contains (λ x. IsFalse trail.literals x × (¬ IsFalse (take (place + 1) trail.literals) x)) walk.clause l h.kept.behind c in
      b.1 (subst (λ x. Contains (take (place + 1) trail.literals) x)
      (same_literal trail.literals apart t (negation l) (front_all trail.literals (place + 1) t here) b.0 (sym e)) here)

  from_old : (rest : List Literal) × ((l : Literal) → Contains rest l ↔ (Contains h.resolves.resolvent l × (l ≢ negation t)))
  from_old = without h.resolves.resolvent (negation t)

  from_reason : (rest : List Literal) × ((l : Literal) → Contains rest l ↔ (Contains (clause_at log.clauses reason) l × (l ≢ t)))
  from_reason = without (clause_at log.clauses reason) t

  module _ (old : List Literal) (old_is : (l : Literal) → Contains old l ↔ (Contains h.resolves.resolvent l × (l ≢ negation t)))
      (more : List Literal) (more_is : (l : Literal) → Contains more l ↔ (Contains (clause_at log.clauses reason) l × (l ≢ t))) where
    in_old : (l : Literal) → Contains h.resolves.resolvent l → l ≢ negation t → Contains (old ++ more) l
    in_old l c other = Contains-append_left old more l ((old_is l).1 (c, other))

    in_more : (l : Literal) → Contains (clause_at log.clauses reason) l → l ≢ t → Contains (old ++ more) l
    in_more l c other = Contains-append_right old more l ((more_is l).1 (c, other))

    -- the literals of the resolvent are kept, or are false before the place
    to_parts : (l : Literal) → Contains (old ++ more) l → Contains new.clause l ⊎ (Contains new.members l.variable × IsFalse (take place trail.literals) l)
    to_parts l e = ⊎_elim
        (λ o. let g = (old_is l).0 o in
        ⊎_elim
        (λ c. inl (subst (λ xs. Contains xs l) (sym m.same_clause) c))
        (λ x. ⊎_elim
        (λ f. inr (m.stay l.variable x.0, f))
        (λ same. absurd (g.1 (sym (negation-twice l) ∙ ap negation (sym same))))
        (next trail.literals place t within is (negation l) x.1))
        ((h.resolves.has l).0 g.0))
        (λ o. let g = (more_is l).0 o in inr (m.met l g.0, others l g.0 g.1))
        (Contains-append_cases old more l e)

    of_parts : (l : Literal) → Contains new.clause l ⊎ (Contains new.members l.variable × IsFalse (take place trail.literals) l) → Contains (old ++ more) l
    of_parts l e = ⊎_elim
        (λ c. in_old l ((h.resolves.has l).1 (inl (old_clause l c))) (λ same. kept_apart l (old_clause l c) (same_variable l (negation t) same)))
        (λ x. ⊎_elim
        (λ before. in_old l ((h.resolves.has l).1 (inr (before, front_more trail.literals place (place + 1) (negation l) (omega arith) x.1)))
        (λ same. no_more place (negation l) (omega arith) (same_variable l (negation t) same) x.1))
        (λ y.
        let other : y.0 ≢ t = λ same. no_more place (negation l) (omega arith) (sym y.2 ∙ same_variable y.0 t same) x.1 in
        let same = same_negations y.0 l (same_literal trail.literals apart (negation y.0) (negation l)
        (front_all trail.literals place (negation y.0) (others y.0 y.1 other)) (front_all trail.literals place (negation l) x.1) y.2) in
        subst (λ z. Contains (old ++ more) z) same (in_more y.0 y.1 other))
        (m.only l.variable x.0))
        e

    is_resolvent : IsResolvent (clause_at log.clauses reason) h.resolves.resolvent t (old ++ more)
    is_resolvent = record {
      in_one = unit.member;
      in_other = (h.resolves.has (negation t)).1 (inr (met, subst (λ x. Contains (take (place + 1) trail.literals) x) (sym (negation-twice t)) here));
      rest_of_one = All-weaker (Contains (clause_at log.clauses reason)) (λ l. l ≢ t → Contains (old ++ more) l) (λ l c other. in_more l c other)
          (clause_at log.clauses reason) (All-contains_itself (clause_at log.clauses reason));
      rest_of_other = All-weaker (Contains h.resolves.resolvent) (λ l. l ≢ negation t → Contains (old ++ more) l) (λ l c other. in_old l c other)
          h.resolves.resolvent (All-contains_itself h.resolves.resolvent);
      no_more = All-weaker (Contains (old ++ more)) (λ l. Contains (clause_at log.clauses reason) l ⊎ Contains h.resolves.resolvent l)
          (λ l c. ⊎_elim (λ o. inr ((old_is l).0 o).0) (λ o. inl ((more_is l).0 o).0) (Contains-append_cases old more l c))
          (old ++ more) (All-contains_itself (old ++ more));
    }

    module _ (given : List Literal) (all : AllFalse given (old ++ more))
        (among : (l : Literal) → Contains given l → Contains (take place trail.literals) l ⊎ (Contains new.clause (negation l) ⊎ Contains assumptions l)) where
      -- a literal of the variable isn't given
      ungiven : (l : Literal) → l.variable ≡ t.variable → ¬ Contains given l
      ungiven l e g = ⊎_elim
          (λ f. no_more place l (omega arith) e f)
          (λ x. ⊎_elim
          (λ c. kept_apart (negation l) (old_clause (negation l) c) e)
          (λ a. no_more (length assumptions) l behind e (subst (λ xs. Contains xs l) (sym front) a))
          x)
          (among l g)

      is_unit : IsUnit given (clause_at log.clauses reason) t
      is_unit = record {
        member = unit.member;
        unset = (ungiven t refl, ungiven (negation t) refl);
        others = All-weaker (Contains (clause_at log.clauses reason)) (λ l. l ≢ t → IsFalse given l)
            (λ l c other. All-contains (IsFalse given) (old ++ more) l all (in_more l c other))
            (clause_at log.clauses reason) (All-contains_itself (clause_at log.clauses reason));
      }

      then_false : AllFalse (given ++ t ∷ []) h.resolves.resolvent
      then_false = All-weaker (Contains h.resolves.resolvent) (IsFalse (given ++ t ∷ []))
          (λ l c. elim (same_or_not l (negation t)) [
            | inl same ↦ subst (λ x. Contains (given ++ t ∷ []) x) (negated l t same) (Contains-push given t)
            | inr other ↦ Contains-append_left given (t ∷ []) (negation l) (All-contains (IsFalse given) (old ++ more) l all (in_old l c other))
          ])
          h.resolves.resolvent (All-contains_itself h.resolves.resolvent)

      then_among : (l : Literal) → Contains (given ++ t ∷ []) l
          → Contains (take (place + 1) trail.literals) l ⊎ (Contains walk.clause (negation l) ⊎ Contains assumptions l)
      then_among l g = ⊎_elim
          (λ before. ⊎_elim
          (λ f. inl (front_more trail.literals place (place + 1) l (omega arith) f))
          (λ x. inr (⊎_elim (λ c. inl (old_clause (negation l) c)) (λ a. inr a) x))
          (among l before))
          (λ same. inl (subst (λ x. Contains (take (place + 1) trail.literals) x) same here))
          (Contains-push_cases given t l g)

      ends_so : EndsFalse log.clauses given (reverse new.hints)
      ends_so = subst (λ hints. EndsFalse log.clauses given hints)
          (sym (ap reverse m.same_hints ∙ reverse-append walk.hints (reason ∷ [])))
          (number, inr (t, is_unit, h.resolves.ends (given ++ t ∷ []) then_false then_among))

  module _ (resolution : (rest : List Literal) → AreSafe (inputs_of log) (clause_at log.clauses reason ∷ [])
      → AreSafe (inputs_of log) (h.resolves.resolvent ∷ [])
      → IsResolvent (clause_at log.clauses reason) h.resolves.resolvent t rest → AreSafe (inputs_of log) (rest ∷ []))
      (reason_safe : AreSafe (inputs_of log) log.clauses → AreSafe (inputs_of log) (clause_at log.clauses reason ∷ [])) where
    resolved_resolves : Resolves log assumptions trail.literals place new
    resolved_resolves =
        let old = from_old in
        let more = from_reason in
        record {
          resolvent = old.0 ++ more.0;
          has = λ l. (to_parts old.0 old.1 more.0 more.1 l, of_parts old.0 old.1 more.0 more.1 l);
          safe = λ all. resolution (old.0 ++ more.0) (reason_safe all) (h.resolves.safe all) (is_resolvent old.0 old.1 more.0 more.1);
          ends = ends_so old.0 old.1 more.0 more.1;
        }

    resolved_pending : IsPending trail.literals current (place + 1) walk → IsPending trail.literals current place new
    resolved_pending p =
        let low = lower (omega (arith, p.late, p.before)) in
        let there = h.met.attained (omega arith) in
        record {
          none = m.same_clause ∙ p.none;
          here = walk.lowest;
          late = there.0;
          before = low;
          within = omega arith;
          met = m.stay (literal_at trail.literals walk.lowest).variable there.1;
        }

    resolved_found : IsFound trail.literals current (place + 1) walk → IsFound trail.literals current place new
    resolved_found f =
        let early : place < current = elim (cases_lt place current) [
          | inl before ↦ before
          | inr late ↦ absurd (f.none_left place late (omega arith) within (subst (λ (x : Literal). Contains walk.members x.variable) (sym is) met))
        ] in
        record {
          first = f.first;
          rest = f.rest;
          is = m.same_clause ∙ f.is;
          late = f.late;
          early = f.early;
          none_left = λ k from before inside. absurd (omega arith);
        }

    pub point_resolved : LeadsToPoint trail.literals current (place + 1) walk → LeadsToPoint trail.literals current place new
    point_resolved = ⊎_elim (λ p. inl (resolved_pending p)) (λ f. inr (resolved_found f))

    pub walked_resolved : IsWalked log assumptions trail current place new
    walked_resolved = record {
      same_variables = m.same_variables ∙ h.same_variables;
      resolves = resolved_resolves;
      kept = subst (λ xs. AreKept assumptions trail place xs) (sym m.same_clause) (kept_before assumptions trail place walk.clause h.kept);
      met = m.bounds (record { earliest = h.met.earliest; lowest = h.met.lowest; attained = h.met.attained });
      short = omega (arith, h.short, ap length m.same_hints, length_push walk.hints reason);
    }
