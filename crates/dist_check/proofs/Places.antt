-- Elements of lists that are cut in pieces.
use Rattle.std.proofs.Common.{◌≡◌, inl, inr, ℕ, zero, suc, ◌<◌, List, [], ◌∷◌, ◌++◌, length, get_or, map, refl, ap, ◌∙◌, arith, length-append}
use Rattle.std.specs.List.{Contains}
use Rattle.std.proofs.lemmas.List.{get_or_at, get_or-map, length-map}
use Rattle.dist_cert.specs.ListLaws.{contains-cases, contains-later}

-- the list is cut before an element
pub record IsCutAt {X : Type 0} (xs : List X) (x : X) : Type 0 where
  pub before : List X
  pub after : List X
  pub is : xs ≡ before ++ x ∷ after

later-cut : {X : Type 0} (y : X) (xs : List X) (x : X) → IsCutAt xs x → IsCutAt (y ∷ xs) x
later-cut y xs x cut = record { before = y ∷ cut.before; after = cut.after; is = ap (λ zs. y ∷ zs) cut.is }

pub cut-at : {X : Type 0} (xs : List X) (x : X) → Contains xs x → IsCutAt xs x
cut-at xs x there = at xs there.0 there.1 there.2
  where
    at : (ys : List _) (k : ℕ) → k < length ys → get_or ys k x ≡ x → IsCutAt ys x
    at [] k within is = absurd (omega (arith, within))
    at (y ∷ ys) zero within is = record { before = []; after = ys; is = ap (λ z. z ∷ ys) is }
    at (y ∷ ys) (suc k) within is = later-cut y ys x (at ys k (omega (arith, within)) is)

pub contains-cut : {X : Type 0} (before : List X) (x : X) (after : List X) → Contains (before ++ x ∷ after) x
contains-cut before x after = (length before, omega (arith, length-append before (x ∷ after)), get_or_at before x after x (length before) refl)

-- an element of a list of images
pub contains-map : {X Y : Type 0} (f : X → Y) (xs : List X) (x : X) → Contains xs x → Contains (map f xs) (f x)
contains-map f xs x there = (
  there.0,
  omega (arith, there.1, length-map xs f),
  get_or-map f xs there.0 x (f x) there.1 ∙ ap f there.2,
)

pub record IsImage {X Y : Type 0} (f : X → Y) (xs : List X) (y : Y) : Type 0 where
  pub of : X
  pub there : Contains xs of
  pub is : f of ≡ y

later-image : {X Y : Type 0} (f : X → Y) (x : X) (xs : List X) (y : Y) → IsImage f xs y → IsImage f (x ∷ xs) y
later-image f x xs y image = record { of = image.of; there = contains-later x xs image.of image.there; is = image.is }

pub image-of : {X Y : Type 0} (f : X → Y) (xs : List X) (y : Y) → Contains (map f xs) y → IsImage f xs y
image-of f [] y there = absurd (omega (arith, there.1))
image-of f (x ∷ xs) y there = elim (contains-cases (f x) (map f xs) y there) [
  | inl here ↦ record { of = x; there = (0, omega arith, refl); is = here }
  | inr later ↦ later-image f x xs y (image-of f xs y later)
]
