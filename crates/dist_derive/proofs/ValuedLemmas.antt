-- Truth values that are the same or not, and elements of lists.
use mathlib.Core.Bool.{beq}
use Rattle.std.proofs.Common.{◌≡◌, ◌≢◌, ℕ, ◌+◌, ◌<◌, Bool, true, false, not, List, [], ◌∷◌, ◌++◌, length, get_or, take, refl, ap, sym, ◌∙◌}
use Rattle.std.proofs.Common.{subst, arith}
use Rattle.std.specs.List.{All}
use Rattle.std.proofs.lemmas.Bool.{false≢true, true≢false}
use Rattle.std.proofs.lemmas.List.{get_or_at, length_push, take_at, take_more}
use Rattle.std.proofs.lemmas.List.Elements.{All-take}

pub not-itself : (b : Bool) → not b ≡ b → ⊥
not-itself true e = false≢true e
not-itself false e = true≢false e

pub other-is_not : (a b : Bool) → (a ≢ b) → a ≡ not b
other-is_not true true h = absurd (h refl)
other-is_not true false h = refl
other-is_not false true h = refl
other-is_not false false h = absurd (h refl)

pub All-front : {X : Type 0} (P : X → Type 0) (xs ys : List X) → All P (xs ++ ys) → All P xs
All-front P xs ys h = subst (λ zs. All P zs) (take_at xs ys (length xs) refl) (All-take P (length xs) (xs ++ ys) h)

pub beq-true : (a b : Bool) → beq a b ≡ true → a ≡ b
beq-true true true e = refl
beq-true true false e = absurd (false≢true e)
beq-true false true e = absurd (false≢true e)
beq-true false false e = refl

pub beq-false : (a b : Bool) → beq a b ≡ false → a ≢ b
beq-false true true e h = true≢false e
beq-false true false e h = true≢false h
beq-false false true e h = false≢true h
beq-false false false e h = true≢false e

pub All-last : {X : Type 0} (P : X → Type 0) (xs : List X) (x : X) → All P (xs ++ x ∷ []) → P x
All-last P xs x h = subst P (get_or_at xs x [] x (length xs) refl) (h (length xs) x (omega (arith, length_push xs x)))

-- one element more, as a loop over a slice reads it
pub take_item : {X : Type 0} (xs : List X) (i : ℕ) (x : X) → i < length xs → x ≡ get_or xs i x → take (i + 1) xs ≡ take i xs ++ x ∷ []
take_item xs i x within is = take_more xs i x within ∙ ap (λ y. take i xs ++ y ∷ []) (sym is)

pub All-item : {X : Type 0} (P : X → Type 0) (xs : List X) (i : ℕ) (x : X) → i < length xs → x ≡ get_or xs i x → All P xs → P x
All-item P xs i x within is all = subst P (sym is) (all i x within)
