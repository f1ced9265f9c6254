-- Places in lists.
use Rattle.std.proofs.Common.{◌≡◌, ℕ, ◌+◌, ◌<◌, ◌≤◌, inl, inr, ◌∙◌, List, length, get_or, Some, sym, ap, subst, arith, slice_get}
use Rattle.std.proofs.lemmas.Bool.{cases_lt}
use Rattle.std.proofs.lemmas.Option.{get_or_from_slice_get}
use Rattle.std.specs.Prelude.{Any}

-- no element before a place has a property, and the one at the place hasn't either
pub none-at-more : {X : Type 0} (P : X → Type 0) (xs : List X) (place : ℕ) (x : X) → slice_get xs place ≡ Some x
    → ((k : ℕ) (d : X) → 0 ≤ k → k < place → ¬ P (get_or xs k d)) → ¬ P x → (k : ℕ) (d : X) → 0 ≤ k → k < place + 1 → ¬ P (get_or xs k d)
none-at-more P xs place x is none here k d from short =
    elim (cases_lt k place) [
      | inl less ↦ none k d from less
      | inr past ↦ λ holds. let same : k ≡ place = omega arith in
          here (subst P (ap (λ (n : ℕ). get_or xs n d) same ∙ get_or_from_slice_get xs place x d is) holds)
    ]

-- no element up to a place past the end has a property
pub none-any : {X : Type 0} (P : X → Type 0) (xs : List X) (place : ℕ) → length xs ≤ place → ((k : ℕ) (d : X) → 0 ≤ k → k < place → ¬ P (get_or xs k d))
    → ¬ Any P xs
none-any P xs place past none any = none any.0 any.1 (omega arith) (omega (arith, any.2, past)) (subst P (sym any.3) any.4)
