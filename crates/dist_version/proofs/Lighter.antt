-- The order by weights is decided by the first place where two lists of weights differ, with zeros past their ends.
use Rattle.std.proofs.Common.{◌≡◌, ◌↔◌, ℕ, zero, suc, ◌+◌, ◌-◌, ◌<◌, ◌≤◌, ◌<ℤ◌, List, [], ◌∷◌, length, ℤ, Less, Equal, int_cmp, refl, sym, ap, ◌∙◌, arith}
use Rattle.std.specs.Ordering.{ordering_then}
use Rattle.std.proofs.lemmas.Cmp.{by_ranked, int_ranked}
use Rattle.std.proofs.lemmas.Int.{ints}
use Rattle.dist_version.specs.Order.{weight_at, weights_cmp, weights_of, part_cmp, IsLighter}

int_cmp-less : (x y : ℤ) → x <ℤ y → int_cmp x y ≡ Less
int_cmp-less x y h = by_ranked (x <ℤ y) (x ≡ y) (y <ℤ x) (int_cmp x y) (int_ranked x y (int_cmp x y) refl)
    (λ e p. e) (λ e p. absurd (omega (arith, ints, h, p))) (λ e p. absurd (omega (arith, ints, h, p)))

int_cmp-same : (x y : ℤ) → x ≡ y → int_cmp x y ≡ Equal
int_cmp-same x y h = by_ranked (x <ℤ y) (x ≡ y) (y <ℤ x) (int_cmp x y) (int_ranked x y (int_cmp x y) refl)
    (λ e p. absurd (omega (arith, ints, h, p))) (λ e p. e) (λ e p. absurd (omega (arith, ints, h, p)))

-- the weights after the first
tail : List ℤ → List ℤ
tail [] = []
tail (x ∷ xs) = xs

at_tail : (xs : List ℤ) (k : ℕ) → weight_at (tail xs) k ≡ weight_at xs (suc k)
unfolding tail
at_tail [] k = refl
at_tail (x ∷ xs) k = refl

by_heads : (xs ys : List ℤ) → weights_cmp xs ys ≡ ordering_then (int_cmp (weight_at xs 0) (weight_at ys 0)) (weights_cmp (tail xs) (tail ys))
unfolding tail
by_heads [] [] = refl
by_heads [] (y ∷ ys) = refl
by_heads (x ∷ xs) [] = refl
by_heads (x ∷ xs) (y ∷ ys) = refl

length-tail : (xs : List ℤ) → length (tail xs) ≡ length xs - 1
unfolding tail
length-tail [] = refl
length-tail (x ∷ xs) = omega arith

-- one place further on
further_before : (xs ys : List ℤ) (place k : ℕ) → weight_at xs 0 ≡ weight_at ys 0 → ((k : ℕ) → k < place → weight_at (tail xs) k ≡ weight_at (tail ys) k)
    → k < suc place → weight_at xs k ≡ weight_at ys k
further_before xs ys place zero same before h = same
further_before xs ys place (suc k) same before h = sym (at_tail xs k) ∙ before k (omega arith) ∙ at_tail ys k

further : (xs ys : List ℤ) → weight_at xs 0 ≡ weight_at ys 0 → IsLighter (tail xs) (tail ys) → IsLighter xs ys
further xs ys same h = record {
  place = suc h.place;
  before = λ k. further_before xs ys h.place k same h.before;
  less = rw (← at_tail xs h.place, ← at_tail ys h.place) h.less;
}

lighter_from_less : (n : ℕ) (xs ys : List ℤ) → length xs + length ys ≤ n → weights_cmp xs ys ≡ Less → IsLighter xs ys
lighter_from_less zero [] [] size e = cc
lighter_from_less zero [] (y ∷ ys) size e = absurd (omega (arith, size))
lighter_from_less zero (x ∷ xs) ys size e = absurd (omega (arith, size))
lighter_from_less (suc n) xs ys size e =
    let x = weight_at xs 0 in
    let y = weight_at ys 0 in
    let heads = sym (by_heads xs ys) ∙ e in
    by_ranked (x <ℤ y) (x ≡ y) (y <ℤ x) (int_cmp x y) (int_ranked x y (int_cmp x y) refl)
    (λ f p. record { place = 0; before = λ k h. absurd (omega (arith, h)); less = p })
    (λ f p. further xs ys p (lighter_from_less n (tail xs) (tail ys) (omega (arith, size, length-tail xs, length-tail ys)) (rw f at heads)))
    (λ f p. let g = rw f at heads in cc)

less_from_lighter : (place : ℕ) (xs ys : List ℤ) → ((k : ℕ) → k < place → weight_at xs k ≡ weight_at ys k) → weight_at xs place <ℤ weight_at ys place
    → weights_cmp xs ys ≡ Less
less_from_lighter zero xs ys before less = by_heads xs ys
    ∙ ap (λ o. ordering_then o (weights_cmp (tail xs) (tail ys))) (int_cmp-less (weight_at xs 0) (weight_at ys 0) less)
less_from_lighter (suc place) xs ys before less =
    by_heads xs ys ∙ ap (λ o. ordering_then o (weights_cmp (tail xs) (tail ys))) (int_cmp-same (weight_at xs 0) (weight_at ys 0) (before 0 (omega arith)))
    ∙ less_from_lighter place (tail xs) (tail ys) (λ k p. at_tail xs k ∙ before (suc k) (omega arith) ∙ sym (at_tail ys k))
    (rw (at_tail xs place, at_tail ys place) less)

pub lighter_parts : (a b : List ℕ) → (part_cmp a b ≡ Less) ↔ IsLighter (weights_of a) (weights_of b)
unfolding part_cmp
lighter_parts a b = (
  lighter_from_less (length (weights_of a) + length (weights_of b)) (weights_of a) (weights_of b) (omega arith),
  λ h. less_from_lighter h.place (weights_of a) (weights_of b) h.before h.less,
)
