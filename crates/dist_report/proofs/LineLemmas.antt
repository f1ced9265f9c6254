-- Lines that are written one after another.
use Rattle.std.proofs.Common.{◌≡◌, ℕ, ◌+◌, ◌≤◌, List, [], ◌∷◌, ◌++◌, append_assoc, length, get_or, map, zero, suc, arith, refl}
use Rattle.std.proofs.Common.{take, Some, sym, ap, ◌∙◌, slice_get}
use Rattle.std.specs.List.{flat_map}
use Rattle.std.specs.Option.{option_map_or}
use Rattle.std.proofs.lemmas.List.{flat_map_more, length-map, map-append, take_more}
use Rattle.std.proofs.lemmas.Option.{slice_get_within, get_or_from_slice_get}
use Rattle.dist_repo.specs.declared.package.Package.{Package}
use Rattle.dist_report.specs.PackageText.{label}
use Rattle.dist_report.proofs.ToldLemmas.{take-past}

-- the lines of one more item
pub lines-more : {X : Type 0} (f : X → List ℕ) (xs : List X) (k : ℕ) (x : X) (bs old new : List ℕ) → slice_get xs k ≡ Some x →
    old ≡ bs ++ flat_map f (take k xs) → new ≡ old ++ f x → new ≡ bs ++ flat_map f (take (k + 1) xs)
lines-more f xs k x bs old new is so_far more =
    let short = slice_get_within xs k x is in
    let here : get_or xs k x ≡ x = get_or_from_slice_get xs k x x is in
    let pushed : take (k + 1) xs ≡ take k xs ++ x ∷ [] = take_more xs k x short ∙ ap (λ y. take k xs ++ y ∷ []) here in
    more ∙ ap (λ (t : List ℕ). t ++ f x) so_far ∙ flat_map_more f bs (take k xs) x ∙ ap (λ list. bs ++ flat_map f list) (sym pushed)

-- the lines of all items
pub lines-all : {X : Type 0} (f : X → List ℕ) (xs : List X) (k : ℕ) (bs new : List ℕ) → length xs ≤ k → new ≡ bs ++ flat_map f (take k xs)
    → new ≡ bs ++ flat_map f xs
lines-all f xs k bs new past so_far = so_far ∙ ap (λ list. bs ++ flat_map f list) (take-past xs k past)

-- the labels of one more package
pub labels-more : (ps : List Package) (k : ℕ) (p : Package) (texts : List (List ℕ)) → slice_get ps k ≡ Some p → texts ≡ map label (take k ps)
    → texts ++ label p ∷ [] ≡ map label (take (k + 1) ps)
labels-more ps k p texts is so_far =
    let here : get_or ps k p ≡ p = get_or_from_slice_get ps k p p is in
    let pushed : take (k + 1) ps ≡ take k ps ++ p ∷ [] = take_more ps k p (slice_get_within ps k p is) ∙ ap (λ y. take k ps ++ y ∷ []) here in
    ap (λ (t : List (List ℕ)). t ++ label p ∷ []) so_far ∙ sym (ap (λ (l : List Package). map label l) pushed ∙ map-append label (take k ps) (p ∷ []))

-- the label of a number
pub label-at : (ps : List Package) (n : ℕ) → get_or (map label ps) n [] ≡ option_map_or label (slice_get ps n) []
label-at [] n = refl
label-at (p ∷ ps) zero = refl
label-at (p ∷ ps) (suc n) = label-at ps n

none-past : (ps : List Package) (n : ℕ) → length ps ≤ n → option_map_or label (slice_get ps n) [] ≡ []
none-past [] n past = refl
none-past (p ∷ ps) zero past = absurd (omega arith)
none-past (p ∷ ps) (suc n) past = none-past ps n (omega arith)

-- there is none past the last label
pub label-past : (ps : List Package) (n : ℕ) (texts : List (List ℕ)) → texts ≡ map label ps → length texts ≤ n
    → option_map_or label (slice_get ps n) [] ≡ []
label-past ps n texts is past = none-past ps n (omega (arith, ap length is, length-map ps label))

-- ---- texts that are added one after another

pub joined-two : (old p s a b : List ℕ) → a ≡ old ++ p → b ≡ a ++ s → b ≡ old ++ (p ++ s)
joined-two old p s a b first second = second ∙ ap (λ (t : List ℕ). t ++ s) first ∙ append_assoc old p s

pub joined-three : (old p s t a b c : List ℕ) → a ≡ old ++ p → b ≡ a ++ s → c ≡ b ++ t → c ≡ old ++ (p ++ (s ++ t))
joined-three old p s t a b c first second third = joined-two old p (s ++ t) a c first (joined-two a s t b c second third)

pub joined-four : (old p s t u a b c d : List ℕ) → a ≡ old ++ p → b ≡ a ++ s → c ≡ b ++ t → d ≡ c ++ u → d ≡ old ++ (p ++ (s ++ (t ++ u)))
joined-four old p s t u a b c d first second third fourth =
    joined-two old p (s ++ (t ++ u)) a d first (joined-three a s t u b c d second third fourth)

pub joined-class : (old p s t u v a b c d e : List ℕ) → a ≡ old ++ p → b ≡ a ++ s → c ≡ b ++ t → d ≡ c ++ u → e ≡ d ++ v
    → e ≡ old ++ ((p ++ (s ++ (t ++ u))) ++ v)
joined-class old p s t u v a b c d e first second third fourth fifth =
    joined-two old (p ++ (s ++ (t ++ u))) v d e (joined-four old p s t u a b c d first second third fourth) fifth

pub joined-five : (old p s t u v a b c d e : List ℕ) → a ≡ old ++ p → b ≡ a ++ s → c ≡ b ++ t → d ≡ c ++ u → e ≡ d ++ v
    → e ≡ old ++ (p ++ (s ++ (t ++ (u ++ v))))
joined-five old p s t u v a b c d e first second third fourth fifth =
    joined-two old p (s ++ (t ++ (u ++ v))) a e first (joined-four a s t u v b c d e second third fourth fifth)
