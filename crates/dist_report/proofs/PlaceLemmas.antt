-- The places of pairs, and lists that are told by places.
use Rattle.std.proofs.Common.{◌≡◌, ℕ, suc, ◌+◌, ◌<◌, ◌==◌, ◌&&◌, ◌||◌, Bool, true, false, List, [], ◌∷◌, ◌++◌, length, get_or, take, refl}
use Rattle.std.proofs.Common.{Option, None, Some, sym, ap, ◌∙◌, arith, slice_get}
use Rattle.std.specs.Prelude.{filter}
use Rattle.std.specs.List.{flat_map, range_with_len}
use Rattle.std.proofs.Math.Bool.{or-false}
use Rattle.std.proofs.lemmas.Bool.{eq-eqb, eqb-true}
use Rattle.std.proofs.lemmas.List.{take_more}
use Rattle.std.proofs.lemmas.List.Folds.{list_any-append}
use Rattle.dist_cert.specs.Rising.{is_among}
use Rattle.dist_report.specs.ChallengedReport.{has_pair}
use Rattle.dist_report.specs.Lines.{key_line, listed}

-- ---- where a pair stands

-- a place is that of a pair exactly where the pair stands there
abbrev pub IsPlaceOf : List (ℕ × ℕ) → ℕ × ℕ → Option ℕ → Type 0
IsPlaceOf row pair found = (place : ℕ) → (found ≡ Some place → slice_get row place ≡ Some pair) × (slice_get row place ≡ Some pair → found ≡ Some place)

pub place-none : (row : List (ℕ × ℕ)) (pair : ℕ × ℕ) → ((place : ℕ) → slice_get row place ≡ Some pair → ⊥) → IsPlaceOf row pair None
place-none row pair none place = ((λ found. cc), (λ is. absurd (none place is)))

pub place-some : (row : List (ℕ × ℕ)) (pair : ℕ × ℕ) (p : ℕ) → slice_get row p ≡ Some pair → ((place : ℕ) → slice_get row place ≡ Some pair → p ≡ place)
    → IsPlaceOf row pair (Some p)
place-some row pair p here one place =
    ((λ found. let same : p ≡ place = cc in ap (slice_get row) (sym same) ∙ here), (λ is. ap (λ (n : ℕ). Some n) (one place is)))

pub pair-is : (pair : ℕ × ℕ) (a b : ℕ) → pair.0 ≡ a → pair.1 ≡ b → pair ≡ (a, b)
pair-is (x, y) a b first second = rw (first, second) refl

-- ---- tests of pairs

abbrev same : ℕ × ℕ → ℕ × ℕ → Bool
same p q = (p.0 == q.0) && (p.1 == q.1)

same-apart : (p q : ℕ × ℕ) (a b : Bool) → (p.0 == q.0) ≡ a → (p.1 == q.1) ≡ b → same p q ≡ true → p ≡ q
same-apart p q true true first second is = pair-is p q.0 q.1 (eqb-true p.0 q.0 first) (eqb-true p.1 q.1 second)
same-apart p q true false first second is = let no : false ≡ true = sym (rw (first, second) refl) ∙ is in cc
same-apart p q false b first second is = let no : false ≡ true = sym (rw first refl) ∙ is in cc

same-true : (p q : ℕ × ℕ) → same p q ≡ true → p ≡ q
same-true p q is = same-apart p q (p.0 == q.0) (p.1 == q.1) refl refl is

same-itself : (p q : ℕ × ℕ) → p ≡ q → same p q ≡ true
same-itself p q is = rw (eq-eqb p.0 q.0 (ap (λ (x : ℕ × ℕ). x.0) is), eq-eqb p.1 q.1 (ap (λ (x : ℕ × ℕ). x.1) is)) refl

same-false : (p q : ℕ × ℕ) (b : Bool) → same p q ≡ b → (p ≡ q → ⊥) → b ≡ false
same-false p q true is other = absurd (other (same-true p q is))
same-false p q false is other = refl

-- the test of a place is the test of the pair that stands there
same-place : (row : List (ℕ × ℕ)) (q : ℕ × ℕ) (p place : ℕ) (pair : ℕ × ℕ) (b c : Bool) → IsPlaceOf row q (Some p) → slice_get row place ≡ Some pair
    → (place == p) ≡ b → same pair q ≡ c → b ≡ c
same-place row q p place pair true c found is here there =
    let at : place ≡ p = eqb-true place p here in
    let at_q : slice_get row place ≡ Some q = ap (slice_get row) at ∙ (found p).0 refl in
    let one : pair ≡ q = cc in
    sym (sym there ∙ same-itself pair q one)
same-place row q p place pair false false found is here there = refl
same-place row q p place pair false true found is here there =
    let one : pair ≡ q = same-true pair q there in
    let at_q : slice_get row place ≡ Some q = is ∙ ap (λ (x : ℕ × ℕ). Some x) one in
    let found_is : Some p ≡ Some place = (found place).1 at_q in
    let at : place ≡ p = cc in
    sym here ∙ eq-eqb place p at

-- ---- the places of the first pairs

abbrev pub ArePlaces : List (ℕ × ℕ) → List (ℕ × ℕ) → List ℕ → Type 0
ArePlaces row pairs places = (place : ℕ) (pair : ℕ × ℕ) → slice_get row place ≡ Some pair → is_among places place ≡ has_pair pairs pair

has-more : (pairs : List (ℕ × ℕ)) (k : ℕ) (q pair : ℕ × ℕ) → k < length pairs → get_or pairs k q ≡ q
    → has_pair (take (k + 1) pairs) pair ≡ (has_pair (take k pairs) pair || same pair q)
has-more pairs k q pair short here =
    let pushed : take (k + 1) pairs ≡ take k pairs ++ q ∷ [] = take_more pairs k q short ∙ ap (λ (y : ℕ × ℕ). take k pairs ++ y ∷ []) here in
    ap (λ (list : List (ℕ × ℕ)). has_pair list pair) pushed ∙ list_any-append (λ (other : ℕ × ℕ). same pair other) (take k pairs) (q ∷ [])
    ∙ ap (λ (b : Bool). has_pair (take k pairs) pair || b) (or-false (same pair q))

pub places-none : (row pairs : List (ℕ × ℕ)) (k : ℕ) (q : ℕ × ℕ) (places : List ℕ) → k < length pairs → get_or pairs k q ≡ q → IsPlaceOf row q None
    → ArePlaces row (take k pairs) places → ArePlaces row (take (k + 1) pairs) places
places-none row pairs k q places short here found so_far place pair is =
    let other : pair ≡ q → ⊥ = λ one. let no : None ≡ Some place = (found place).1 (is ∙ ap (λ (x : ℕ × ℕ). Some x) one) in cc in
    so_far place pair is ∙ sym (or-false (has_pair (take k pairs) pair))
    ∙ ap (λ (b : Bool). has_pair (take k pairs) pair || b) (sym (same-false pair q (same pair q) refl other)) ∙ sym (has-more pairs k q pair short here)

pub places-some : (row pairs : List (ℕ × ℕ)) (k : ℕ) (q : ℕ × ℕ) (p : ℕ) (places later : List ℕ) → k < length pairs → get_or pairs k q ≡ q
    → IsPlaceOf row q (Some p) → later ≡ places ++ p ∷ [] → ArePlaces row (take k pairs) places → ArePlaces row (take (k + 1) pairs) later
places-some row pairs k q p places later short here found pushed so_far place pair is =
    ap (λ (list : List ℕ). is_among list place) pushed ∙ list_any-append (λ (n : ℕ). place == n) places (p ∷ [])
    ∙ ap (λ (b : Bool). is_among places place || b) (or-false (place == p))
    ∙ ap (λ (b : Bool). b || (place == p)) (so_far place pair is)
    ∙ ap (λ (b : Bool). has_pair (take k pairs) pair || b) (same-place row q p place pair (place == p) (same pair q) found is refl refl)
    ∙ sym (has-more pairs k q pair short here)

-- ---- what is picked by places, and what is picked of the items that stand there

pub record ArePicked {X : Type 0} (lines : ℕ → List ℕ) (lines' : X → List ℕ) (places : List ℕ) (items : List X) : Type 0 where
  pub count : length places ≡ length items
  pub text : flat_map lines places ≡ flat_map lines' items

-- the test and the lines of each place are those of the item that stands there
abbrev pub Agree : {X : Type 0} → (f : ℕ → Bool) → (g : X → Bool) → (lines : ℕ → List ℕ) → (lines' : X → List ℕ) → List X → (start : ℕ) → Type 0
Agree {X} f g lines lines' xs start = (k : ℕ) (x : X) → slice_get xs k ≡ Some x → (f (start + k) ≡ g x) × (lines (start + k) ≡ lines' x)

picked-from : {X : Type 0} (f : ℕ → Bool) (g : X → Bool) (lines : ℕ → List ℕ) (lines' : X → List ℕ) (xs : List X) (start : ℕ)
    → Agree f g lines lines' xs start → ArePicked lines lines' (filter f (range_with_len start (length xs))) (filter g xs)
picked-from f g lines lines' [] start agree = record { count = refl; text = refl }
picked-from {X} f g lines lines' (x ∷ xs) start agree =
    let later : Agree f g lines lines' xs (start + 1) = λ k y is.
    let at : (start + 1) + k ≡ start + suc k = omega arith in
    let here = agree (suc k) y is in
    (ap f at ∙ here.0, ap lines at ∙ here.1) in
    let rest = picked-from f g lines lines' xs (start + 1) later in
    let first = agree 0 x refl in
    let at : start + 0 ≡ start = omega arith in
    one (f start) (g x) (sym (ap f at) ∙ first.0) refl refl (sym (ap lines at) ∙ first.1) rest
  where
    one : (a b : Bool) → f start ≡ g x → f start ≡ a → g x ≡ b → lines start ≡ lines' x
        → ArePicked lines lines' (filter f (range_with_len (start + 1) (length xs))) (filter g xs)
        → ArePicked lines lines' (filter f (range_with_len start (length (x ∷ xs)))) (filter g (x ∷ xs))
    one true true test left right line rest = rw (left, right) (record { count = ap suc rest.count; text = rw (line, rest.text) refl })
    one false false test left right line rest = rw (left, right) rest
    one true false test left right line rest = let no : true ≡ false = sym left ∙ test ∙ right in cc
    one false true test left right line rest = let no : false ≡ true = sym left ∙ test ∙ right in cc

pub picked-at : {X : Type 0} (f : ℕ → Bool) (g : X → Bool) (lines : ℕ → List ℕ) (lines' : X → List ℕ) (xs : List X)
    → ((k : ℕ) (x : X) → slice_get xs k ≡ Some x → (f k ≡ g x) × (lines k ≡ lines' x))
    → ArePicked lines lines' (filter f (range_with_len 0 (length xs))) (filter g xs)
picked-at {X} f g lines lines' xs agree = picked-from f g lines lines' xs 0 (λ k x is.
    let at : 0 + k ≡ k = omega arith in
    let here = agree k x is in
    (ap f at ∙ here.0, ap lines at ∙ here.1))

pub told-picked : {X : Type 0} (key : List ℕ) (lines : ℕ → List ℕ) (lines' : X → List ℕ) (places : List ℕ) (items : List X)
    → ArePicked lines lines' places items
    → key_line key (length places == 0) ++ flat_map lines places ≡ listed key lines' items
told-picked key lines lines' places items picked =
    ap (λ (n : ℕ). key_line key (n == 0) ++ flat_map lines places) picked.count ∙ ap (λ (t : List ℕ). key_line key (length items == 0) ++ t) picked.text
