-- How the walk down the trail begins, with the false clause, and what it has found at its end.
use Rattle.std.proofs.Common.{◌≡◌, ◌≢◌, ℕ, suc, ◌≤◌, ⊎_elim, inl, inr, List, [], ◌∷◌, length, take, map, reverse, refl, ap, sym, subst}
use Rattle.std.proofs.Common.{◌∙◌, arith}
use Rattle.std.specs.List.{AllPairs, Contains}
use Rattle.std.proofs.lemmas.Bool.{cases_lt}
use Rattle.std.proofs.lemmas.List.{length-reverse, take_all}
use Rattle.std.proofs.lemmas.List.Elements.{All-nil, All-weaker, All-contains, All-contains_itself}
use Rattle.dist_clause.specs.Formula.{Literal, negation}
use Rattle.dist_clause.specs.ClauseList.{clause_at}
use Rattle.dist_derive.specs.ContainmentPrivate.{ContainsAll}
use Rattle.dist_derive.specs.ClauseLog.{ClauseLog, inputs_of}
use Rattle.dist_derive.specs.Propagation.{IsFalse, AllFalse}
use Rattle.dist_derive.specs.Follows.{IsNumberOf, EndsFalse}
use Rattle.dist_derive.specs.Safe.{AreSafe}
use Rattle.dist_search.specs.Trail.{TrailState, literal_at}
use Rattle.dist_search.specs.Learned.{IsPoint, IsTaught}
use Rattle.dist_search.specs.AnalysisPrivate.{WalkState, AreMet, Meets, Resolves, AreKept, IsFound, LeadsToPoint, IsWalked}
use Rattle.dist_search.proofs.PlaceLemmas.{same_negations, same_variable, at_place, contains_front, front_place, front_all}
use Rattle.dist_search.proofs.PlaceLemmas.{same_literal}
use Rattle.dist_search.proofs.ClauseLemmas.{one_not_false, negation_in, negation_of}

module _ (log : ClauseLog) (assumptions : List Literal) (trail : TrailState) (conflict current : ℕ) (start new : WalkState)
    (members : start.members ≡ []) (clause : start.clause ≡ []) (hints : start.hints ≡ conflict ∷ []) (at_end : start.lowest ≡ length trail.literals)
    (same_variables : start.variables ≡ log.variables)
    (m : Meets trail.literals current (clause_at log.clauses conflict) start new)
    (apart : AllPairs (λ l k. l.variable ≢ k.variable) trail.literals)
    (number : IsNumberOf log.clauses conflict) (is_false : AllFalse trail.literals (clause_at log.clauses conflict))
    (clause_safe : AreSafe (inputs_of log) log.clauses → AreSafe (inputs_of log) (clause_at log.clauses conflict ∷ [])) where
  none_kept : new.clause ≡ []
  none_kept = m.same_clause ∙ clause

  only_clause : (l : Literal) → Contains new.clause l → ⊥
  only_clause l c = absurd (omega (arith, (subst (λ xs. Contains xs l) none_kept c).1))

  unmet : (v : ℕ) → Contains start.members v → ⊥
  unmet v c = absurd (omega (arith, (subst (λ xs. Contains xs v) members c).1))

  all_front : (l : Literal) → Contains trail.literals l → Contains (take (length trail.literals) trail.literals) l
  all_front l c = subst (λ xs. Contains xs l) (sym (take_all (length trail.literals) trail.literals (omega arith))) c

  of_conflict : (l : Literal) → Contains new.members l.variable → IsFalse trail.literals l → Contains (clause_at log.clauses conflict) l
  of_conflict l v f = ⊎_elim
      (λ c. absurd (unmet l.variable c))
      (λ x. subst (λ y. Contains (clause_at log.clauses conflict) y)
      (same_negations x.0 l (same_literal trail.literals apart (negation x.0) (negation l)
      (All-contains (IsFalse trail.literals) (clause_at log.clauses conflict) x.0 is_false x.1) f x.2)) x.1)
      (m.only l.variable v)

  first_resolves : Resolves log assumptions trail.literals (length trail.literals) new
  first_resolves = record {
    resolvent = clause_at log.clauses conflict;
    has = λ l. (
      λ c. inr (m.met l c, all_front (negation l) (All-contains (IsFalse trail.literals) (clause_at log.clauses conflict) l is_false c)),
      λ e. ⊎_elim
          (λ c. absurd (only_clause l c))
          (λ x. of_conflict l x.0 (front_all trail.literals (length trail.literals) (negation l) x.1))
          e,
    );
    safe = clause_safe;
    ends = λ given all among. subst (λ xs. EndsFalse log.clauses given xs) (sym (ap reverse (m.same_hints ∙ hints))) (number, inl (all, inl refl));
  }

  first_kept : AreKept assumptions trail (length trail.literals) []
  first_kept = record {
    behind = All-nil (λ l. IsFalse trail.literals l × (¬ IsFalse (take (length trail.literals) trail.literals) l));
    distinct = λ i j d before within. absurd (omega arith);
    falling = λ i j d before within. absurd (omega arith);
    assumed = λ none. All-nil (IsFalse assumptions);
  }

  first_met : AreMet trail.literals current start
  first_met = record {
    earliest = λ place within c. absurd (unmet (literal_at trail.literals place).variable c);
    lowest = λ place within c from. absurd (unmet (literal_at trail.literals place).variable c);
    attained = λ before. absurd (omega (arith, at_end));
  }

  pub walked_first : IsWalked log assumptions trail current (length trail.literals) new
  walked_first = record {
    same_variables = m.same_variables ∙ same_variables;
    resolves = first_resolves;
    kept = subst (λ xs. AreKept assumptions trail (length trail.literals) xs) (sym none_kept) first_kept;
    met = m.bounds first_met;
    short = omega (arith, ap length (m.same_hints ∙ hints));
  }

-- a literal of the false clause that is not false before the current level
pub point_first : (trues clause : List Literal) (current : ℕ) (start new : WalkState) → start.clause ≡ [] → Meets trues current clause start new
    → AllFalse trues clause → (¬ AllFalse (take current trues) clause) → LeadsToPoint trues current (length trues) new
point_first trues clause current start new none m is_false late =
    let one = one_not_false (take current trues) clause late in
    let p = at_place trues (negation one.0) (All-contains (IsFalse trues) clause one.0 is_false one.1) in
    inl (record {
      none = m.same_clause ∙ none;
      here = p.0;
      late = elim (cases_lt p.0 current) [
        | inl before ↦ absurd (one.2 (subst (λ x. Contains (take current trues) x) p.2 (contains_front trues current p.0 before p.1)))
        | inr behind ↦ behind
      ];
      before = p.1;
      within = p.1;
      met = subst (Contains new.members) (sym (same_variable (literal_at trues p.0) (negation one.0) p.2)) (m.met one.0 one.1);
    })

module _ (log : ClauseLog) (assumptions : List Literal) (trail : TrailState) (current place : ℕ) (walk : WalkState)
    (h : IsWalked log assumptions trail current place walk) (all : place ≤ walk.earliest) where
  -- nothing that was met is left
  none_rest : (l : Literal) → Contains walk.members l.variable → IsFalse (take place trail.literals) l → ⊥
  none_rest l v f =
      let p = front_place trail.literals place (negation l) f in
      let early = h.met.earliest p.0 p.2 (subst (Contains walk.members) (sym (same_variable (literal_at trail.literals p.0) (negation l) p.3)) v) in
      absurd (omega (arith, early, p.1))

  in_clause : (l : Literal) → Contains h.resolves.resolvent l → Contains walk.clause l
  in_clause l c = ⊎_elim (λ k. k) (λ x. absurd (none_rest l x.0 x.1)) ((h.resolves.has l).0 c)

  falls_under : (given : List Literal) → AllFalse given walk.clause → AllFalse given h.resolves.resolvent
  falls_under given under = All-weaker (Contains h.resolves.resolvent) (IsFalse given)
      (λ l c. All-contains (IsFalse given) walk.clause l under (in_clause l c))
      h.resolves.resolvent (All-contains_itself h.resolves.resolvent)

  pub taught_end : (few : length trail.literals ≤ log.variables) (any_order : ContainsAll h.resolves.resolvent walk.clause
      → ContainsAll walk.clause h.resolves.resolvent
      → AreSafe (inputs_of log) (h.resolves.resolvent ∷ []) → AreSafe (inputs_of log) (walk.clause ∷ []))
      → IsTaught log assumptions trail (record { variables = walk.variables; clause = walk.clause; hints = reverse walk.hints })
  taught_end few any_order = record {
    is_false = All-weaker (λ l. IsFalse trail.literals l × (¬ IsFalse (take place trail.literals) l)) (IsFalse trail.literals) (λ l b. b.0)
        walk.clause h.kept.behind;
    distinct = h.kept.distinct;
    follows = h.resolves.ends (map negation walk.clause)
        (falls_under (map negation walk.clause) (All-weaker (Contains walk.clause) (IsFalse (map negation walk.clause))
        (λ l c. negation_in walk.clause l c) walk.clause (All-contains_itself walk.clause)))
        (λ l g. inr (inl (negation_of walk.clause l g)));
    short = omega (arith, few, h.short, length-reverse walk.hints);
    safe = λ s. any_order
        (All-weaker (Contains walk.clause) (Contains h.resolves.resolvent) (λ l c. (h.resolves.has l).1 (inl c)) walk.clause (All-contains_itself walk.clause))
        (All-weaker (Contains h.resolves.resolvent) (Contains walk.clause) in_clause h.resolves.resolvent (All-contains_itself h.resolves.resolvent))
        (h.resolves.safe s);
    refutes = λ none. h.resolves.ends assumptions (falls_under assumptions (h.kept.assumed none)) (λ l a. inr (inr a));
  }

  point_found : IsFound trail.literals current place walk → IsPoint trail current walk.clause
  point_found f = record {
    first = f.first;
    rest = f.rest;
    is = f.is;
    late = f.late;
    early = f.early;
    latest = λ second more e k before. λ i d within.
        let falling = subst (λ xs. AllPairs (λ l m. (k : ℕ) → IsFalse (take k trail.literals) l → IsFalse (take k trail.literals) m) xs)
        (f.is ∙ ap (λ xs. f.first ∷ xs) e) h.kept.falling in
        falling (suc 0) (suc (suc i)) d (omega arith) (omega arith) k before;
  }

  pub point_end : LeadsToPoint trail.literals current place walk → IsPoint trail current walk.clause
  point_end = ⊎_elim (λ p. absurd (omega (arith, h.met.earliest p.here p.within p.met, p.before))) (λ f. point_found f)
