-- How many decisions stand up to the second literal of what a conflict taught.
use Rattle.std.proofs.Common.{◌≡◌, ℕ, ◌<◌, ◌≤◌, List, [], ◌∷◌, length, get_or, take, refl, ap, sym, subst, ◌∙◌, arith, length-take, inl, inr}
use Rattle.std.specs.List.{All, Contains, slice_index}
use Rattle.std.proofs.lemmas.Bool.{cases_lt}
use Rattle.std.proofs.lemmas.List.{get_or-take, get_or_default}
use Rattle.std.proofs.lemmas.List.Elements.{All-contains}
use Rattle.dist_clause.specs.Formula.{Literal, negation}
use Rattle.dist_derive.specs.Propagation.{IsFalse, AllFalse}
use Rattle.dist_search.specs.Trail.{TrailState, literal_at, IsOrdered}
use Rattle.dist_search.specs.StepsPrivate.{IsPointAtLast, IsLevel}
use Rattle.dist_search.proofs.PointLemmas.{place_of, in_front, not_in_front}

module _ (trail : TrailState) (clause : List Literal) (ordered : IsOrdered trail) (p : IsPointAtLast trail clause) where
  -- a single literal: no decision
  pub level_of_single : (first : Literal) → clause ≡ first ∷ [] → IsLevel trail clause 0
  level_of_single first is = record {
    within = omega (arith, p.last);
    alone = λ f e. refl;
    second = λ f other more e. absurd (omega (arith, ap length (sym is ∙ e)));
  }

  module _ (first second : Literal) (more : List Literal) (is : clause ≡ first ∷ second ∷ more) (place level : ℕ)
      (inside : place < length trail.literals) (at : (literal_at trail.literals place).variable ≡ second.variable)
      (before : (k : ℕ) → k < level → slice_index trail.starts k ≤ place)
      (behind : (k : ℕ) → level ≤ k → k < length trail.starts → place < slice_index trail.starts k)
      (to : level ≤ length trail.starts) where
    second_false : IsFalse trail.literals second
    second_false = All-contains (IsFalse trail.literals) clause second p.is_false
        (subst (λ c. Contains c second) (sym is) (1, omega arith, refl))

    literal_here : literal_at trail.literals place ≡ negation second
    literal_here = place_of trail.variables trail.literals (negation second) place ordered.over second_false inside at

    -- the second literal became false before the last start
    early : Contains (take (slice_index trail.starts p.level) trail.literals) (negation second)
    early =
        let all = subst (λ c. AllFalse (take (slice_index trail.starts p.level) trail.literals) c)
        (ap tail_of (sym p.point.is ∙ is)) p.point.early in
        all 0 second (omega arith)
      where
        tail_of : List Literal → List Literal
        tail_of [] = []
        tail_of (x ∷ xs) = xs

    not_all : level < length trail.starts
    not_all = elim (cases_lt level (length trail.starts)) [
      | inl below ↦ below
      | inr past ↦ absurd (not_in_front trail.variables trail.literals (negation second) place (slice_index trail.starts p.level)
          ordered.over inside literal_here (before p.level (omega (arith, past, p.last))) early)
    ]

    pub level_of_second : IsLevel trail clause level
    level_of_second = record {
      within = not_all;
      alone = λ f e. absurd (omega (arith, ap length (sym is ∙ e)));
      second = λ f other rest e. subst
          (λ o. IsFalse (take (slice_index trail.starts level) trail.literals) o
          × All (λ s. ¬ IsFalse (take s trail.literals) o) (take level trail.starts))
          (ap second_of (sym is ∙ e)) (
            in_front trail.literals (negation second) place (slice_index trail.starts level) inside literal_here (behind level (omega arith) not_all),
            λ k d within.
                let below : k < level = omega (arith, within, length-take level trail.starts) in
                let start : get_or (take level trail.starts) k d ≡ get_or trail.starts k 0 = get_or-take level trail.starts k d below
                ∙ get_or_default trail.starts k d 0 (omega (arith, below, to)) in
                not_in_front trail.variables trail.literals (negation second) place (get_or (take level trail.starts) k d) ordered.over
                inside literal_here (omega (arith, start, before k below)),
          );
    }
      where
        second_of : List Literal → Literal
        second_of [] = first
        second_of (x ∷ []) = first
        second_of (x ∷ y ∷ ys) = y

-- a clause of two literals or more
pub by_second : (clause : List Literal) (second : Literal) → 2 ≤ length clause → second ≡ get_or clause 1 second
    → (first : Literal) × (more : List Literal) × (clause ≡ first ∷ second ∷ more)
by_second [] second long at = absurd (omega (arith, long))
by_second (x ∷ []) second long at = absurd (omega (arith, long))
by_second (x ∷ y ∷ ys) second long at = (x, ys, ap (λ z. x ∷ z ∷ ys) (sym at))
