-- One list within another, and an element of a list.
use Rattle.std.proofs.Common.{◌≡◌, ◌≢◌, ℕ, zero, suc, ◌<◌, List, [], ◌∷◌, ◌++◌, length, get_or, sym, subst, arith}
use Rattle.std.specs.List.{All, Contains}
use Rattle.std.proofs.lemmas.List.Elements.{All-weaker, All-contains, All-contains_itself, Contains-append_left}
use Rattle.dist_clause.specs.Formula.{Literal}
use Rattle.dist_derive.specs.ContainmentPrivate.{ContainsAll}
use Rattle.dist_derive.specs.OccurrencesPrivate.{code_of}

pub ContainsAll-itself : {X : Type 0} (xs : List X) → ContainsAll xs xs
ContainsAll-itself xs = All-contains_itself xs

pub ContainsAll-then : {X : Type 0} (xs ys zs : List X) → ContainsAll ys xs → ContainsAll zs ys → ContainsAll zs xs
ContainsAll-then xs ys zs first second = All-weaker (Contains ys) (Contains zs) (λ x e. All-contains (Contains zs) ys x second e) xs first

pub ContainsAll-push : {X : Type 0} (xs : List X) (x : X) → ContainsAll (xs ++ x ∷ []) xs
ContainsAll-push xs x = All-weaker (Contains xs) (Contains (xs ++ x ∷ [])) (λ y e. Contains-append_left xs (x ∷ []) y e) xs (All-contains_itself xs)

Contains-tail-at : {X : Type 0} (x : X) (xs : List X) (y : X) (k : ℕ) → k < length (x ∷ xs) → get_or (x ∷ xs) k y ≡ y → (x ≢ y) → Contains xs y
Contains-tail-at x xs y zero within at other = absurd (other at)
Contains-tail-at x xs y (suc k) within at other = (k, omega arith, at)

pub Contains-tail : {X : Type 0} (x : X) (xs : List X) (y : X) → Contains (x ∷ xs) y → (x ≢ y) → Contains xs y
Contains-tail x xs y h other = Contains-tail-at x xs y h.0 h.1 h.2 other

pub All-item : {X : Type 0} (P : X → Type 0) (xs : List X) (i : ℕ) (x : X) → i < length xs → x ≡ get_or xs i x → All P xs → P x
All-item P xs i x within is all = subst P (sym is) (all i x within)

-- literals of one code are the same
pub same_code : (l m : Literal) → code_of l ≡ code_of m → l ≡ m
same_code l m e = grind arith
