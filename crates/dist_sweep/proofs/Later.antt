-- What the latest installations were before one more came.
use Rattle.std.proofs.Common.{◌≡◌, ℕ, ◌-◌, ◌<◌, Bool, true, List, [], ◌∷◌, ◌++◌, length, drop}
use Rattle.std.proofs.Common.{ap, subst, arith, length-append}
use Rattle.std.specs.List.{All}
use Rattle.std.proofs.lemmas.List.{get_or_append_left}
use Rattle.circular_buffer.specs.Buffer.{keep_last}
use Rattle.dist_clause.specs.Formula.{value_of}
use Rattle.dist_cert.specs.declared.TheConstants.{REACH}
use Rattle.dist_sweep.specs.Window.{HasEach, WindowView, added}

-- there was room
pub each-before : (w : WindowView) (values : List Bool) (p q : ℕ) → length w.kept < REACH → HasEach (added w values) p q → HasEach w p q
each-before w values p q few each k d within =
    let size = length-append w.kept (values ∷ []) in
    let none : length (w.kept ++ values ∷ []) - REACH ≡ 0 = omega (arith, size, few) in
    let same : keep_last REACH (w.kept ++ values ∷ []) ≡ w.kept ++ values ∷ [] = ap (λ (n : ℕ). drop n (w.kept ++ values ∷ [])) none in
    subst (λ (v : List Bool). value_of v p ≡ true → value_of v q ≡ true) (get_or_append_left w.kept (values ∷ []) d k within)
    (subst (λ (xs : List (List Bool)). All (λ v. value_of v p ≡ true → value_of v q ≡ true) xs) same each k d (omega (arith, size, within)))
