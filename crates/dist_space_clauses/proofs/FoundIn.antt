-- Tests whether a number is there.
use Rattle.std.proofs.Common.{◌≡◌, ℕ, ◌<◌, ◌≤◌, true, false, List, length, get_or, sym, subst, ◌∙◌, arith, eqb, eqb-true, eq-eqb}
use Rattle.std.specs.Prelude.{Contains}
use Rattle.std.proofs.lemmas.Bool.{false≢true}

-- a number was searched for in a list of numbers: both are known under other words
module _ (xs searched : List ℕ) (w x : ℕ) (is_searched : searched ≡ xs) (is_number : w ≡ x) where
  pub found : ((k : ℕ) × (k < length searched) × ((d : ℕ) → eqb (get_or searched k d) w ≡ true)) → Contains xs x
  found here =
      subst (Contains xs) is_number (subst (λ (ys : List ℕ). Contains ys w) is_searched (here.0, here.1, eqb-true (get_or searched here.0 w) w (here.2 w)))

  pub not-found : ((k d : ℕ) → 0 ≤ k → k < length searched → eqb (get_or searched k d) w ≡ false) → ¬ Contains xs x
  not-found none there =
      let inside : Contains searched w = subst (λ (ys : List ℕ). Contains ys w) (sym is_searched) (subst (Contains xs) (sym is_number) there) in
      false≢true (sym (none inside.0 w (omega arith) inside.1) ∙ eq-eqb (get_or searched inside.0 w) w inside.2)
