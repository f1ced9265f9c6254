-- Lists: what is mapped, by its places.
use Rattle.std.proofs.Common.{◌≡◌, ℕ, zero, suc, ◌+◌, ◌<◌, List, [], ◌∷◌, ◌++◌, length, get_or, map, take, drop, refl, ap, ◌∙◌, arith}

pub map-split : {X Y : Type 0} (f : X → Y) (xs : List X) (k : ℕ) (d : X) → k < length xs
    → map f xs ≡ map f (take k xs) ++ f (get_or xs k d) ∷ map f (drop (suc k) xs)
map-split f [] k d within = absurd (omega (arith, within))
map-split f (x ∷ xs) zero d within = refl
map-split {X} {Y} f (x ∷ xs) (suc k) d within = ap (λ (ys : List Y). f x ∷ ys) (map-split f xs k d (omega (arith, within)))

map-taken : {X Y : Type 0} (f : X → Y) (xs : List X) (k : ℕ) (d : X) → k < length xs → map f (take (suc k) xs) ≡ map f (take k xs) ++ f (get_or xs k d) ∷ []
map-taken f [] k d within = absurd (omega (arith, within))
map-taken f (x ∷ xs) zero d within = refl
map-taken {X} {Y} f (x ∷ xs) (suc k) d within = ap (λ (ys : List Y). f x ∷ ys) (map-taken f xs k d (omega (arith, within)))

pub map-more : {X Y : Type 0} (f : X → Y) (xs : List X) (k : ℕ) (d : X) → k < length xs → map f (take (k + 1) xs) ≡ map f (take k xs) ++ f (get_or xs k d) ∷ []
map-more f xs k d within = let next : k + 1 ≡ suc k = omega arith in ap (λ (n : ℕ). map f (take n xs)) next ∙ map-taken f xs k d within
