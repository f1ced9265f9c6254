-- Induction over the fronts of a list.
use Rattle.std.proofs.Common.{◌≡◌, ◌⊎◌, ⊎_elim, inl, inr, List, [], ◌∷◌, ◌++◌, length, refl, ap, sym, subst, ◌∙◌, append_assoc, append-nil, arith}
use Rattle.std.proofs.Common.{length-append}

first_or : {X : Type 0} → X → List X → X
first_or x [] = x
first_or x (y ∷ ys) = y

rest_of : {X : Type 0} → List X → List X
rest_of [] = []
rest_of (y ∷ ys) = ys

nil-left : {X : Type 0} (earlier later : List X) → [] ≡ earlier ++ later → earlier ≡ []
nil-left [] later e = refl
nil-left (y ∷ ys) later e = let n = ap length e in absurd (omega (arith, n, length-append (y ∷ ys) later))

-- a front of a list with one more element is the whole of it, or a front of the list
pub snoc-cases : {X : Type 0} (before : List X) (x : X) (earlier later : List X) → before ++ x ∷ [] ≡ earlier ++ later
    → (earlier ≡ before ++ x ∷ []) ⊎ ((rest : List X) × (before ≡ earlier ++ rest))
unfolding first_or rest_of
snoc-cases before x [] later e = inr (before, refl)
snoc-cases [] x (y ∷ ys) later e =
    let none = nil-left ys later (ap rest_of e) in
    inl (ap (λ zs. y ∷ zs) none ∙ ap (λ z. z ∷ []) (sym (ap (first_or x) e)))
snoc-cases (b ∷ bs) x (y ∷ ys) later e =
    let same = ap (first_or b) e in
    ⊎_elim
    (λ whole. inl (ap (λ zs. y ∷ zs) whole ∙ ap (λ z. z ∷ (bs ++ x ∷ [])) (sym same)))
    (λ front. inr (front.0, ap (λ z. z ∷ bs) same ∙ ap (λ zs. y ∷ zs) front.1))
    (snoc-cases bs x ys later (ap rest_of e))

-- it holds of each front of the list
abbrev pub OfFronts : {X : Type 0} → (List X → Type 0) → List X → Type 0
OfFronts {X} P xs = (earlier later : List X) → xs ≡ earlier ++ later → P earlier

-- one element more, where it holds of all fronts
abbrev pub GoesOn : {X : Type 0} → (List X → Type 0) → List X → Type 0
GoesOn {X} P whole = (front : List X) (x : X) (back : List X) → whole ≡ front ++ x ∷ back → OfFronts P front → P (front ++ x ∷ [])

walk : {X : Type 0} (P : List X → Type 0) (whole before after : List X) → whole ≡ before ++ after → OfFronts P before → GoesOn P whole → P whole
walk P whole before [] is all on = subst P (sym (is ∙ append-nil before)) (all before [] (sym (append-nil before)))
walk {X} P whole before (x ∷ after) is all on = walk P whole (before ++ x ∷ []) after (is ∙ sym (append_assoc before (x ∷ []) after)) more on
  where
    more : OfFronts P (before ++ x ∷ [])
    more earlier later e = ⊎_elim (λ same. subst P (sym same) (on before x after is all)) (λ front. all earlier front.0 front.1)
        (snoc-cases before x earlier later e)

pub by-fronts : {X : Type 0} (P : List X → Type 0) (whole : List X) → P [] → GoesOn P whole → P whole
by-fronts P whole none on = walk P whole [] whole refl (λ earlier later e. subst P (sym (nil-left earlier later e)) none) on
