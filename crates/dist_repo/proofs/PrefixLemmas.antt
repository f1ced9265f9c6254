-- Prefixes of names: what they are while they are made, and that two that differ decide which name is lower.
use Rattle.std.proofs.Common.{◌≡◌, ◌≢◌, ℕ, zero, suc, ◌+◌, ◌*◌, ◌^◌, ◌<◌, ◌≤◌, List, [], ◌∷◌, get_or, Ordering, Less, Equal, Greater, true, Fits, w8, nat_cmp}
use Rattle.std.proofs.Common.{refl, sym, ap, ◌∙◌, arith, inl, inr}
use Rattle.std.specs.Prelude.{All}
use Rattle.std.specs.Cmp.{nat_cmp_is}
use Rattle.std.specs.Cmp.Lexicographic.{slice_cmp}
use Rattle.std.specs.Ordering.{ordering_then, is_ne}
use Rattle.std.proofs.lemmas.Bool.{cases_lt, false≢true}
use Rattle.std.proofs.lemmas.List.Elements.{All-head, All-tail, All-from_get_or}
use Rattle.std.proofs.Math.Nat.{one-le-pow, pow-suc, mul-le-mul_left, pow-le-pow_right}
use Rattle.dist_repo.specs.Prefix.{digits, IsPrefixOf}

abbrev IsByte : ℕ → Type 0
IsByte b = b < 256

pub bytes-fit : (name : List ℕ) → ((i : ℕ) → Fits w8 (get_or name i 0)) → All IsByte name
bytes-fit name fit = All-from_get_or IsByte name 0 (λ i within. let small = fit i in omega arith)

-- ---- so many digits

digit-below : (b p r : ℕ) → b < 256 → r < p → b * p + r < p * 256
digit-below b p r small below =
    let most : b ≤ 255 = omega arith in
    omega (arith, mul-le-mul_left p most)

pub digits-below : (places : ℕ) (bytes : List ℕ) → All IsByte bytes → digits places bytes < 256 ^ places
unfolding digits
digits-below zero bytes small = omega arith
digits-below (suc places) [] small = one-le-pow (suc places) 256 (omega arith)
digits-below (suc places) (b ∷ bytes) small =
    rw (pow-suc 256 places) (digit-below b (256 ^ places) (digits places bytes) (All-head IsByte b bytes small)
    (digits-below places bytes (All-tail IsByte b bytes small)))

shifted : (b p q r s t : ℕ) → q ≡ p * 256 → t ≡ r * 256 + s → b * q + t ≡ (b * p + r) * 256 + s
shifted b p q r s t power more = ap (λ k. b * k + t) power ∙ omega (arith, more)

-- the digits of one place more
pub digits-more : (places : ℕ) (bytes : List ℕ) → digits (suc places) bytes ≡ digits places bytes * 256 + get_or bytes places 0
unfolding digits
digits-more zero [] = refl
digits-more zero (b ∷ bytes) = omega arith
digits-more (suc places) [] = refl
digits-more (suc places) (b ∷ bytes) =
    shifted b (256 ^ places) (256 ^ suc places) (digits places bytes) (get_or bytes places 0) (digits (suc places) bytes) (pow-suc 256 places)
    (digits-more places bytes)

-- sixteen digits fit in 128 bits
pub digits-fit : (places : ℕ) (bytes : List ℕ) → All IsByte bytes → places < 16 → digits places bytes * 256 + 255 < 2 ^ 128
digits-fit places bytes small few =
    let below = digits-below places bytes small in
    let most : 256 ^ suc places ≤ 256 ^ 16 = pow-le-pow_right (omega arith) few in
    omega (arith, pow-suc 256 places, below, most)

-- ---- digits that differ decide the order

digits-less : (x y p r s : ℕ) → x < y → r < p → x * p + r < y * p + s
digits-less x y p r s less below = omega (arith, mul-le-mul_left p less)

same-first : (k r s : ℕ) → r ≢ s → nat_cmp r s ≡ nat_cmp (k + r) (k + s)
same-first k r s apart = elim (cases_lt r s) [
  | inl less ↦ sym (nat_cmp_is r s Less less) ∙ nat_cmp_is (k + r) (k + s) Less (omega arith)
  | inr other ↦
      let greater : s < r = omega arith in
      sym (nat_cmp_is r s Greater greater) ∙ nat_cmp_is (k + r) (k + s) Greater (omega arith)
]

by-first : (x y p r s : ℕ) (rest : Ordering) → r < p → s < p → (r ≢ s → rest ≡ nat_cmp r s) → x * p + r ≢ y * p + s →
    ordering_then (nat_cmp x y) rest ≡ nat_cmp (x * p + r) (y * p + s)
by-first x y p r s rest first second later apart = elim (cases_lt x y) [
  | inl less ↦
      ap (λ o. ordering_then o rest) (sym (nat_cmp_is x y Less less)) ∙ nat_cmp_is (x * p + r) (y * p + s) Less (digits-less x y p r s less first)
  | inr other ↦ elim (cases_lt y x) [
    | inl greater ↦
        ap (λ o. ordering_then o rest) (sym (nat_cmp_is x y Greater greater))
        ∙ nat_cmp_is (x * p + r) (y * p + s) Greater (digits-less y x p s r greater second)
    | inr another ↦
        let same : x ≡ y = omega arith in
        let differ : r ≢ s = λ e. apart (ap (λ k. k * p + r) same ∙ ap (λ k. y * p + k) e) in
        ap (λ o. ordering_then o rest) (sym (nat_cmp_is x y Equal same)) ∙ later differ ∙ same-first (y * p) r s differ
        ∙ ap (λ k. nat_cmp (k * p + r) (y * p + s)) (sym same)
  ]
]

digits-decide : (places : ℕ) (a b : List ℕ) → All IsByte a → All IsByte b → digits places a ≢ digits places b
    → slice_cmp nat_cmp a b ≡ nat_cmp (digits places a) (digits places b)
unfolding digits
digits-decide zero a b first second apart = absurd (apart refl)
digits-decide (suc places) [] [] first second apart = absurd (apart refl)
digits-decide (suc places) [] (y ∷ b) first second apart = nat_cmp_is 0 (y * 256 ^ places + digits places b) Less (omega (arith, apart))
digits-decide (suc places) (x ∷ a) [] first second apart = nat_cmp_is (x * 256 ^ places + digits places a) 0 Greater (omega (arith, apart))
digits-decide (suc places) (x ∷ a) (y ∷ b) first second apart =
    let first' = All-tail IsByte x a first in
    let second' = All-tail IsByte y b second in
    by-first x y (256 ^ places) (digits places a) (digits places b) (slice_cmp nat_cmp a b) (digits-below places a first') (digits-below places b second')
    (digits-decide places a b first' second') apart

-- an order of two prefixes that is no tie is that of the names
pub prefixes-decide : (m n : ℕ) (a b : List ℕ) (o : Ordering) → IsPrefixOf m a → IsPrefixOf n b → o ≡ nat_cmp m n → is_ne o ≡ true → o ≡ slice_cmp nat_cmp a b
prefixes-decide m n a b o first second order decided =
    let differ : m ≢ n = λ same. false≢true (ap is_ne (nat_cmp_is m n Equal same ∙ sym order) ∙ decided) in
    let apart : digits 16 a ≢ digits 16 b = λ same. differ (first.number ∙ same ∙ sym second.number) in
    order ∙ ap (λ k. nat_cmp k n) first.number ∙ ap (nat_cmp (digits 16 a)) second.number ∙ sym (digits-decide 16 a b first.bytes second.bytes apart)

-- and no tie is changed by what comes behind it
pub then-decided : (o rest : Ordering) → is_ne o ≡ true → ordering_then o rest ≡ o
then-decided Less rest decided = refl
then-decided Equal rest decided = absurd (false≢true decided)
then-decided Greater rest decided = refl
