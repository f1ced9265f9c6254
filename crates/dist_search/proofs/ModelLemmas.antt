-- A model, where all variables of the cone have values and no clause is false.
use Rattle.std.proofs.Common.{◌≡◌, ℕ, zero, suc, ◌+◌, ◌-◌, ◌<◌, ◌≤◌, ◌↔◌, ◌⊎◌, ⊎_elim, inl, inr, Bool, true, false, List, [], ◌∷◌, length, get_or, refl, ap}
use Rattle.std.proofs.Common.{sym, subst, ◌∙◌, arith, length-take}
use Rattle.std.specs.List.{All, Any, Contains}
use Rattle.std.proofs.lemmas.List.{get_or-take, get_or_default}
use Rattle.std.proofs.lemmas.List.Elements.{All-nil, All-cons, All-head, All-tail, All-contains, All-take}
use Rattle.dist_clause.specs.Formula.{Literal, literal, negation, value_of, MakesTrue, IsModel, IsClauseOver}
use Rattle.dist_clause.specs.ClauseList.{clause_at}
use Rattle.dist_derive.specs.ClauseLog.{ClauseLog, inputs_of}
use Rattle.dist_derive.specs.Propagation.{IsFalse, AllFalse, IsConsistent}
use Rattle.dist_derive.specs.Cone.{InCone, IsWithinCone}
use Rattle.dist_search.specs.Search.{SearchState, IsFound}
use Rattle.dist_search.specs.StepsPrivate.{IsSet, IsAtRest, AreValuesOf}
use Rattle.dist_search.proofs.PrefixLemmas.{of_front}
use Rattle.dist_search.proofs.GuardedLaws.{TrueLiteralSettles, TwoLiteralsSettle, guarded_settles}

set_or : (trues : List Literal) (l : Literal) → IsSet trues l.variable → Contains trues l ⊎ IsFalse trues l
set_or trues l set = at l.positive
  where
    at : (b : Bool) → Contains trues (literal l.variable b) ⊎ Contains trues (negation (literal l.variable b))
    at true = set
    at false = ⊎_elim (λ h. inr h) (λ h. inl h) set

any_cons : (P : Literal → Type 0) (l : Literal) (clause : List Literal) → Any P clause → Any P (l ∷ clause)
any_cons P l clause h = (suc h.0, h.1, omega (arith, h.2), h.3, h.4)

-- a clause of set variables has a true literal, or all are false
true_or_false : (trues clause : List Literal) → All (λ l. IsSet trues l.variable) clause → Any (Contains trues) clause ⊎ AllFalse trues clause
true_or_false trues [] h = inr (All-nil (IsFalse trues))
true_or_false trues (l ∷ clause) h = ⊎_elim
    (λ here. inl (zero, l, omega arith, refl, here))
    (λ is_false. ⊎_elim (λ more. inl (any_cons (Contains trues) l clause more)) (λ all. inr (All-cons (IsFalse trues) l clause is_false all))
    (true_or_false trues clause (All-tail (λ m. IsSet trues m.variable) l clause h)))
    (set_or trues l (All-head (λ m. IsSet trues m.variable) l clause h))

-- the law of models of a cone, as dist_derive tells it
abbrev pub ConeModelsExtend : Type 0
ConeModelsExtend = (n : ℕ) (inputs : List (List Literal)) (assumptions : List Literal) (cone : List ℕ) (value : ℕ → Bool) → All (IsClauseOver n) inputs
    → ((v : ℕ) → Contains cone v ↔ InCone inputs assumptions v) → All (λ clause. IsWithinCone inputs assumptions clause → MakesTrue value clause) inputs
    → ((v : ℕ) → 1 ≤ v → v ≤ n → (¬ Contains cone v) → value v ≡ false) → IsModel value inputs

module _ (extend : ConeModelsExtend) (by_true : TrueLiteralSettles) (by_two : TwoLiteralsSettle) (log : ClauseLog) (assumptions : List Literal)
    (cone : List ℕ) (search : SearchState) (values : List Bool) (exact : (v : ℕ) → Contains cone v ↔ InCone (inputs_of log) assumptions v)
    (over : All (IsClauseOver log.variables) log.clauses) (few : log.inputs ≤ length log.clauses) (same : search.trail.variables ≡ log.variables)
    (consistent : IsConsistent search.trail.literals) (rest : IsAtRest log.clauses assumptions cone search)
    (set : All (IsSet search.trail.literals) cone) (long : length values ≡ search.trail.variables) (are : AreValuesOf search.trail.literals values) where
  abbrev trues : List Literal
  trues = search.trail.literals

  makes_true : All (λ clause. IsWithinCone (inputs_of log) assumptions clause → MakesTrue (value_of values) clause) (inputs_of log)
  makes_true k d inside within =
      let below : k < log.inputs = omega (arith, inside, length-take log.inputs log.clauses) in
      let k_in : k < length log.clauses = omega (arith, below, few) in
      let place : k + 1 - 1 ≡ k = omega arith in
      let at : clause_at log.clauses (k + 1) ≡ get_or (inputs_of log) k d = ap (λ i. get_or log.clauses i []) place
      ∙ (get_or_default log.clauses k [] d k_in ∙ sym (get_or-take log.inputs log.clauses k d below)) in
      let clause = clause_at log.clauses (k + 1) in
      let in_cone : All (λ l. Contains cone l.variable) clause = λ j e j_in. (exact (get_or clause j e).variable).1
      (subst (λ c. IsWithinCone (inputs_of log) assumptions c) (sym at) within j e j_in) in
      let clause_over : IsClauseOver log.variables clause = subst (λ c. IsClauseOver log.variables c)
      (ap (λ i. get_or log.clauses i []) (sym place)) (over k [] k_in) in
      let not_false = (guarded_settles by_true by_two log.variables search.watches log.clauses trues (k + 1) rest.watching.watches consistent clause_over
      (omega arith) (rest.settled (k + 1) (omega arith) (omega (arith, k_in)) in_cone)).0 in
      subst (λ c. MakesTrue (value_of values) c) at (⊎_elim
      (λ any. (any.0, any.1, any.2, any.3, are.true_ones any.1 any.4))
      (λ all. absurd (not_false all))
      (true_or_false trues clause (λ j e j_in. All-contains (IsSet trues) cone (get_or clause j e).variable set (in_cone j e j_in))))

  set_in_cone : (v : ℕ) → IsSet trues v → Contains cone v
  set_in_cone v (inl c) = All-contains (λ (l : Literal). Contains cone l.variable) trues (literal v true) rest.within_cone c
  set_in_cone v (inr c) = All-contains (λ (l : Literal). Contains cone l.variable) trues (literal v false) rest.within_cone c

  pub found : IsFound log assumptions values
  found = record {
    variables = long ∙ same;
    model = extend log.variables (inputs_of log) assumptions cone (value_of values) (All-take (IsClauseOver log.variables) log.inputs log.clauses over) exact
        makes_true (λ v one to out. are.others v one (λ s. out (set_in_cone v s)));
    assumed = λ k d inside.
        let a = get_or assumptions k d in
        let here : Contains assumptions a = (k, inside, get_or_default assumptions k a d inside) in
        are.true_ones a (of_front (length assumptions) trues a (subst (λ xs. Contains xs a) (sym rest.trail.assumed) here));
  }
