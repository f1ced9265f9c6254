-- The cone is itself closed, and a model of the clauses within it becomes one of all clauses.
use Rattle.std.proofs.Common.{◌≡◌, ℕ, suc, ◌≤◌, ◌⊎◌, ⊎_elim, inl, inr, ◌↔◌, Bool, true, false, List, [], ◌∷◌, ◌++◌, length, take, get_or, subst, refl, sym, ◌∙◌}
use Rattle.std.proofs.Common.{arith}
use Rattle.std.specs.List.{All, Any, Contains}
use Rattle.std.proofs.lemmas.Bool.{cases_Bool, true≢false}
use Rattle.std.proofs.lemmas.List.Elements.{All-nil, All-cons, All-weaker, All-contains, Contains-get_or}
use Rattle.std.proofs.lemmas.List.{take-append-le}
use Rattle.dist_clause.specs.Formula.{Literal, IsClauseOver, MakesTrue, IsModel}
use Rattle.dist_derive.specs.ContainmentPrivate.{ContainsAll}
use Rattle.dist_derive.specs.Cone.{InCone, IsWithinCone}
use Rattle.dist_derive.proofs.GrowingLemmas.{is_member, is_member-true, is_member-at}

pub assumptions_in_cone : (inputs : List (List Literal)) (assumptions : List Literal) → All (λ l. InCone inputs assumptions l.variable) assumptions
assumptions_in_cone inputs assumptions = λ k d within has assumed closed. assumed k d within

pub cone_closed : (inputs : List (List Literal)) (assumptions clause : List Literal) → Contains inputs clause
    → All (λ l. l.positive ≡ false → InCone inputs assumptions l.variable) clause → All (λ l. InCone inputs assumptions l.variable) clause
cone_closed inputs assumptions clause here negatives = λ k d within has assumed closed.
    All-contains (λ c. All (λ l. l.positive ≡ false → has l.variable ≡ true) c → All (λ l. has l.variable ≡ true) c) inputs clause closed here
    (All-weaker (λ l. l.positive ≡ false → InCone inputs assumptions l.variable) (λ l. l.positive ≡ false → has l.variable ≡ true)
    (λ l h e. h e has assumed closed) clause negatives) k d within

-- all negative literals of a clause are in the set, or the clause has a negative literal outside
pub negatives_or_outside : (has : ℕ → Bool) (clause : List Literal) → All (λ l. l.positive ≡ false → has l.variable ≡ true) clause
    ⊎ ((l : Literal) × Contains clause l × (l.positive ≡ false) × (has l.variable ≡ false))
negatives_or_outside has [] = inl (All-nil (λ l. l.positive ≡ false → has l.variable ≡ true))
negatives_or_outside has (l ∷ rest) = ⊎_elim
    (λ all. elim (cases_Bool l.positive) [
      | inl positive ↦ inl (All-cons (λ m. m.positive ≡ false → has m.variable ≡ true) l rest (λ e. absurd (true≢false (sym positive ∙ e))) all)
      | inr negative ↦ elim (cases_Bool (has l.variable)) [
        | inl inside ↦ inl (All-cons (λ m. m.positive ≡ false → has m.variable ≡ true) l rest (λ _. inside) all)
        | inr outside ↦ inr (l, (0, omega arith, refl), negative, outside)
      ]
    ])
    (λ x. inr (x.0, (suc x.1.0, omega (arith, x.1.1), x.1.2), x.2, x.3))
    (negatives_or_outside has rest)

-- the same with the cone's list of variables
members_or_outside : (members : List ℕ) (clause : List Literal) → All (λ l. l.positive ≡ false → Contains members l.variable) clause
    ⊎ ((l : Literal) × Contains clause l × (l.positive ≡ false) × (¬ Contains members l.variable))
members_or_outside members clause = ⊎_elim
    (λ all. inl (All-weaker (λ l. l.positive ≡ false → is_member members l.variable ≡ true) (λ l. l.positive ≡ false → Contains members l.variable)
    (λ l h e. is_member-true members l.variable (h e)) clause all))
    (λ x. inr (x.0, x.1, x.2, λ h. true≢false (sym (is_member-at members x.0.variable h.0 h.1 h.2) ∙ x.3)))
    (negatives_or_outside (is_member members) clause)

pub cone_model : (n : ℕ) (inputs : List (List Literal)) (assumptions : List Literal) (cone : List ℕ) (value : ℕ → Bool) → All (IsClauseOver n) inputs
    → ((v : ℕ) → Contains cone v ↔ InCone inputs assumptions v)
    → All (λ clause. IsWithinCone inputs assumptions clause → MakesTrue value clause) inputs → ((v : ℕ) → 1 ≤ v → v ≤ n → (¬ Contains cone v) → value v ≡ false)
    → IsModel value inputs
cone_model n inputs assumptions cone value over exact within outside_false = λ k d k_within.
    let clause = get_or inputs k d in
    let in_range = (over k d k_within).in_range in
    ⊎_elim
    (λ negatives.
    let in_cone = All-weaker (λ l. l.positive ≡ false → Contains cone l.variable) (λ l. l.positive ≡ false → InCone inputs assumptions l.variable)
    (λ l h e. (exact l.variable).0 (h e)) clause negatives in
    within k d k_within (cone_closed inputs assumptions clause (Contains-get_or inputs k d k_within) in_cone))
    (λ x.
    let r = All-contains (λ l. (1 ≤ l.variable) × (l.variable ≤ n)) clause x.0 in_range x.1 in
    (x.1.0, x.0, x.1.1, x.1.2, outside_false x.0.variable r.0 r.1 x.3 ∙ sym x.2))
    (members_or_outside cone clause)

pub reaches_outside : (inputs : List (List Literal)) (assumptions : List Literal) (cone : List ℕ) (clause : List Literal)
    → ((v : ℕ) → Contains cone v ↔ InCone inputs assumptions v)
    → Contains inputs clause → (¬ IsWithinCone inputs assumptions clause) → Any (λ l. (l.positive ≡ false) × (¬ Contains cone l.variable)) clause
reaches_outside inputs assumptions cone clause exact here out = ⊎_elim
    (λ negatives. absurd (out (cone_closed inputs assumptions clause here
    (All-weaker (λ l. l.positive ≡ false → Contains cone l.variable) (λ l. l.positive ≡ false → InCone inputs assumptions l.variable)
    (λ l h e. (exact l.variable).0 (h e)) clause negatives))))
    (λ x. (x.1.0, x.0, x.1.1, x.1.2, (x.2, x.3)))
    (members_or_outside cone clause)

pub cone_of_inputs : (clauses more : List (List Literal)) (inputs : ℕ) (assumptions : List Literal) (v : ℕ) → inputs ≤ length clauses
    → InCone (take inputs (clauses ++ more)) assumptions v ↔ InCone (take inputs clauses) assumptions v
cone_of_inputs clauses more inputs assumptions v enough =
    let same = take-append-le inputs clauses more enough in
    (λ h. subst (λ cs. InCone cs assumptions v) same h, λ h. subst (λ cs. InCone cs assumptions v) (sym same) h)

pub cone_grows : (inputs : List (List Literal)) (assumptions more : List Literal) (v : ℕ) → ContainsAll more assumptions → InCone inputs assumptions v
    → InCone inputs more v
cone_grows inputs assumptions more v kept h = λ has assumed closed.
    h has (All-weaker (Contains more) (λ l. has l.variable ≡ true) (λ l e. All-contains (λ m. has m.variable ≡ true) more l assumed e) assumptions kept) closed
