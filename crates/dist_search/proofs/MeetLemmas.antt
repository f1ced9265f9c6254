-- Literals that are met one after another.
use Rattle.std.proofs.Common.{◌≡◌, ◌≢◌, ℕ, ◌<◌, ◌≤◌, ◌⊎◌, ⊎_elim, inl, inr, List, [], ◌∷◌, ◌++◌, length, min, refl, ap, sym, subst, ◌∙◌, arith}
use Rattle.std.specs.List.{AllPairs, Contains}
use Rattle.std.proofs.lemmas.Bool.{cases_lt}
use Rattle.std.proofs.lemmas.List.Elements.{Contains-push, Contains-push_cases, Contains-append_left, Contains-append_right, Contains-append_cases}
use Rattle.dist_clause.specs.Formula.{Literal}
use Rattle.dist_derive.specs.VariableSet.{VariableList}
use Rattle.dist_search.specs.Trail.{literal_at}
use Rattle.dist_search.specs.AnalysisPrivate.{WalkState, AreMet, Meets}
use Rattle.dist_search.proofs.PlaceLemmas.{one_place}

module _ (trues : List Literal) (current : ℕ) where
  pub meets_none : (walk : WalkState) → Meets trues current [] walk walk
  meets_none walk = record {
    same_variables = refl;
    same_clause = refl;
    same_hints = refl;
    stay = λ v c. c;
    met = λ l c. absurd (omega (arith, c.1));
    only = λ v c. inl c;
    bounds = λ b. b;
  }

  pub meets_then : (one other : List Literal) (a b c : WalkState) → Meets trues current one a b → Meets trues current other b c
      → Meets trues current (one ++ other) a c
  meets_then one other a b c first second = record {
    same_variables = second.same_variables ∙ first.same_variables;
    same_clause = second.same_clause ∙ first.same_clause;
    same_hints = second.same_hints ∙ first.same_hints;
    stay = λ v h. second.stay v (first.stay v h);
    met = λ l h. ⊎_elim (λ g. second.stay l.variable (first.met l g)) (λ g. second.met l g) (Contains-append_cases one other l h);
    only = λ v h. ⊎_elim
        (λ g. ⊎_elim
        (λ k. inl k)
        (λ x. inr (x.0, Contains-append_left one other x.0 x.1, x.2))
        (first.only v g))
        (λ x. inr (x.0, Contains-append_right one other x.0 x.1, x.2))
        (second.only v h);
    bounds = λ h. second.bounds (first.bounds h);
  }

  single : (l m : Literal) → Contains (l ∷ []) m → l ≡ m
  single l m h = ⊎_elim (λ e. absurd (omega (arith, e.1))) (λ e. e) (Contains-push_cases [] l m h)

  -- it was met before
  pub meets_again : (walk : WalkState) (l : Literal) → Contains walk.members l.variable → Meets trues current (l ∷ []) walk walk
  meets_again walk l here = record {
    same_variables = refl;
    same_clause = refl;
    same_hints = refl;
    stay = λ v c. c;
    met = λ m c. subst (λ (x : Literal). Contains walk.members x.variable) (single l m c) here;
    only = λ v c. inl c;
    bounds = λ b. b;
  }

  -- it was not
  module _ (apart : AllPairs (λ l m. l.variable ≢ m.variable) trues) (walk new : WalkState) (l : Literal) (place : ℕ) (within : place < length trues)
      (is : (literal_at trues place).variable ≡ l.variable)
      (same_variables : new.variables ≡ walk.variables) (same_clause : new.clause ≡ walk.clause) (same_hints : new.hints ≡ walk.hints)
      (members : new.members ≡ walk.members ++ l.variable ∷ []) (earliest : new.earliest ≡ min walk.earliest place)
      (late : current ≤ place → new.lowest ≡ min walk.lowest place) (early : place < current → new.lowest ≡ walk.lowest) where
    cases : (v : ℕ) → Contains new.members v → Contains walk.members v ⊎ (l.variable ≡ v)
    cases v c = Contains-push_cases walk.members l.variable v (subst (λ xs. Contains xs v) members c)

    stays : (v : ℕ) → Contains walk.members v → Contains new.members v
    stays v c = subst (λ xs. Contains xs v) (sym members) (Contains-append_left walk.members (l.variable ∷ []) v c)

    added : Contains new.members l.variable
    added = subst (λ xs. Contains xs l.variable) (sym members) (Contains-push walk.members l.variable)

    low : (new.lowest ≡ walk.lowest) ⊎ ((current ≤ place) × (new.lowest ≡ place))
    low = elim (cases_lt place current) [
      | inl before ↦ inl (early before)
      | inr behind ↦ elim (cases_lt walk.lowest place) [
        | inl less ↦ inl (omega (arith, late behind))
        | inr more ↦ inr (behind, omega (arith, late behind))
      ]
    ]

    meets_bounds : AreMet trues current walk → AreMet trues current new
    meets_bounds b = record {
      earliest = λ k inside c. ⊎_elim
          (λ old. omega (arith, earliest, b.earliest k inside old))
          (λ e. omega (arith, earliest, one_place trues apart place k within inside (is ∙ e)))
          (cases (literal_at trues k).variable c);
      lowest = λ k inside c from. ⊎_elim
          (λ old. elim (cases_lt place current) [
            | inl before ↦ omega (arith, early before, b.lowest k inside old from)
            | inr behind ↦ omega (arith, late behind, b.lowest k inside old from)
          ])
          (λ e. let same = one_place trues apart place k within inside (is ∙ e) in omega (arith, same, late (omega (arith, same, from))))
          (cases (literal_at trues k).variable c);
      attained = λ inside. ⊎_elim
          (λ same.
          let old = b.attained (omega (arith, same)) in (
            omega (arith, same, old.0),
            stays (literal_at trues new.lowest).variable
                (subst (λ k. Contains walk.members (literal_at trues k).variable) (sym same) old.1),
          ))
          (λ here. (
            omega (arith, here.0, here.1),
            subst (λ k. Contains new.members (literal_at trues k).variable) (sym here.1) (subst (Contains new.members) (sym is) added),
          ))
          low;
    }

    pub meets_new : Meets trues current (l ∷ []) walk new
    meets_new = record {
      same_variables = same_variables;
      same_clause = same_clause;
      same_hints = same_hints;
      stay = stays;
      met = λ m c. subst (λ (x : Literal). Contains new.members x.variable) (single l m c) added;
      only = λ v c. ⊎_elim (λ old. inl old) (λ e. inr (l, Contains-push [] l, e)) (cases v c);
      bounds = meets_bounds;
    }

-- a walk by its parts
abbrev pub state_of : VariableList → ℕ → ℕ → List Literal → List ℕ → WalkState
state_of marked earliest lowest clause hints = record {
  variables = marked.variables;
  members = marked.members;
  earliest = earliest;
  lowest = lowest;
  clause = clause;
  hints = hints;
}

module _ (trues : List Literal) (current : ℕ) (marked new : VariableList) (earliest lowest : ℕ) (clause : List Literal) (hints : List ℕ) (walk : WalkState)
    (is : state_of marked earliest lowest clause hints ≡ walk) (l : Literal) where
  pub state_again : new ≡ marked → Contains marked.members l.variable → Meets trues current (l ∷ []) walk (state_of new earliest lowest clause hints)
  state_again same here =
      let before = state_of marked earliest lowest clause hints in
      subst (λ w. Meets trues current (l ∷ []) w (state_of new earliest lowest clause hints)) is
      (subst (λ s. Meets trues current (l ∷ []) before (state_of s earliest lowest clause hints)) (sym same)
      (meets_again trues current before l here))

  pub state_new : (after : WalkState) (place first low : ℕ) → AllPairs (λ l m. l.variable ≢ m.variable) trues → place < length trues
      → (literal_at trues place).variable ≡ l.variable → new ≡ record marked { members = marked.members ++ l.variable ∷ [] }
      → after ≡ state_of new first low clause hints → first ≡ min earliest place
      → (current ≤ place → low ≡ min lowest place) → (place < current → low ≡ lowest)
      → Meets trues current (l ∷ []) walk after
  state_new after place first low apart within stands grown made at_first late early =
      let before = state_of marked earliest lowest clause hints in
      subst (λ w. Meets trues current (l ∷ []) w after) is (subst (λ w. Meets trues current (l ∷ []) before w) (sym made)
      (meets_new trues current apart before (state_of new first low clause hints) l place within stands
      (ap (λ (s : VariableList). s.variables) grown) refl refl (ap (λ (s : VariableList). s.members) grown) at_first late early))
