-- The numbers that digits write: how they grow, and how they compare.
use Rattle.std.proofs.Common.{◌≡◌, ◌≢◌, ℕ, zero, suc, ◌+◌, ◌-◌, ◌*◌, ◌<◌, ◌≤◌, Bool, true, false, List, [], ◌∷◌, ◌++◌, length, get_or, take, drop}
use Rattle.std.proofs.Common.{take-append-drop, nat_cmp, ◌==◌, eqb-true, one-add, inl, inr, refl, sym, ap, ◌∙◌, arith, le_trans, lt_of_lt_of_le}
use Rattle.std.specs.Char.{is_ascii_digit, digit_value}
use Rattle.std.specs.Cmp.Lexicographic.{slice_cmp}
use Rattle.std.specs.List.{list_all, prefix_len}
use Rattle.std.specs.Ordering.{ordering_then}
use Rattle.std.specs.Str.Parse.{digits_value_after, digits_value}
use Rattle.std.proofs.lemmas.Bool.{and_parts, cases_Bool, cases_order, eqb-false}
use Rattle.std.proofs.lemmas.Bool.Decides.{nat_tests}
use Rattle.std.proofs.lemmas.Int.Digits.{digits_value_more}
use Rattle.dist_version.proofs.Then.{then_assoc, then_equal, nat_cmp-less, nat_cmp-same, nat_cmp-greater}

-- a digit's byte
pub digit_byte : (c : ℕ) → is_ascii_digit c ≡ true → (48 ≤ c) × (c ≤ 57) × (digit_value c ≡ c - 48)
digit_byte c h = grind (arith, nat_tests)

pub list_all-at : (test : ℕ → Bool) (xs : List ℕ) (i : ℕ) → list_all test xs ≡ true → i < length xs → test (get_or xs i 0) ≡ true
list_all-at test [] i all h = absurd (omega arith)
list_all-at test (x ∷ xs) zero all h = (and_parts (test x) (list_all test xs) all).0
list_all-at test (x ∷ xs) (suc i) all h = list_all-at test xs i (and_parts (test x) (list_all test xs) all).1 (omega arith)

-- further digits make no number smaller
pub value_grows : (n : ℕ) (ds : List ℕ) → n ≤ digits_value_after 10 n ds
value_grows n [] = omega arith
value_grows n (d ∷ ds) = le_trans (omega arith) (value_grows (n * 10 + digit_value d) ds)

value_after-append : (n : ℕ) (xs ys : List ℕ) → digits_value_after 10 n (xs ++ ys) ≡ digits_value_after 10 (digits_value_after 10 n xs) ys
value_after-append n [] ys = refl
value_after-append n (x ∷ xs) ys = value_after-append (n * 10 + digit_value x) xs ys

pub value_of_start : (ds : List ℕ) (i : ℕ) → digits_value 10 (take i ds) ≤ digits_value 10 ds
value_of_start ds i =
    let e : digits_value 10 ds ≡ digits_value_after 10 (digits_value 10 (take i ds)) (drop i ds) =
    ap (digits_value 10) (sym (take-append-drop i ds)) ∙ value_after-append 0 (take i ds) (drop i ds) in
    rw e (value_grows (digits_value 10 (take i ds)) (drop i ds))

-- one more digit
pub value_more : (ds : List ℕ) (i : ℕ) → list_all is_ascii_digit ds ≡ true → i < length ds
    → digits_value 10 (take (i + 1) ds) ≡ digits_value 10 (take i ds) * 10 + (get_or ds i 0 - 48)
value_more ds i all h =
    digits_value_more 10 ds i h ∙ ap (λ d. digits_value 10 (take i ds) * 10 + d) (digit_byte (get_or ds i 0) (list_all-at is_ascii_digit ds i all h)).2

-- ---- leading zeros

abbrev pub is_zero : ℕ → Bool
is_zero digit = digit == 48

abbrev pub without_zeros : List ℕ → List ℕ
without_zeros ds = drop (prefix_len is_zero ds) ds

-- no zero stands first
abbrev pub HasNoZero : List ℕ → Type 0
HasNoZero [] = Unit {0}
HasNoZero (d ∷ ds) = is_zero d ≡ false

pub without_zeros-value : (ds : List ℕ) → digits_value 10 (without_zeros ds) ≡ digits_value 10 ds
without_zeros-value [] = refl
without_zeros-value (d ∷ ds) = elim (cases_Bool (is_zero d)) [
  | inl zero_digit ↦ rw (zero_digit, one-add, without_zeros-value ds, eqb-true d 48 zero_digit) refl
  | inr other ↦ rw other refl
]

pub without_zeros-all : (ds : List ℕ) → list_all is_ascii_digit ds ≡ true → list_all is_ascii_digit (without_zeros ds) ≡ true
without_zeros-all [] all = refl
without_zeros-all (d ∷ ds) all = elim (cases_Bool (is_zero d)) [
  | inl zero_digit ↦ rw (zero_digit, one-add) (without_zeros-all ds (and_parts (is_ascii_digit d) (list_all is_ascii_digit ds) all).1)
  | inr other ↦ rw other all
]

pub without_zeros-first : (ds : List ℕ) → HasNoZero (without_zeros ds)
without_zeros-first [] = tt
without_zeros-first (d ∷ ds) = elim (cases_Bool (is_zero d)) [
  | inl zero_digit ↦ rw (zero_digit, one-add) (without_zeros-first ds)
  | inr other ↦ rw other other
]

pub value_of_none : (ds : List ℕ) → length (without_zeros ds) ≡ 0 → digits_value 10 ds ≡ 0
value_of_none ds none = sym (without_zeros-value ds) ∙ no_value (without_zeros ds) none
  where
    no_value : (ds : List ℕ) → length ds ≡ 0 → digits_value 10 ds ≡ 0
    no_value [] e = refl
    no_value (d ∷ ds) e = absurd (omega (arith, e))

-- ---- numbers of equally many digits

step_cmp : (n m p q x y : ℕ) → p < 10 → q < 10 → x ≡ p + 48 → y ≡ q + 48 → nat_cmp (n * 10 + p) (m * 10 + q) ≡ ordering_then (nat_cmp n m) (nat_cmp x y)
step_cmp n m p q x y a b e f = elim (cases_order n m) [
  | inl same ↦ rw (nat_cmp-same n m same) (elim (cases_order p q) [
    | inl g ↦ nat_cmp-same (n * 10 + p) (m * 10 + q) (omega arith) ∙ sym (nat_cmp-same x y (omega arith))
    | inr g ↦ elim g [
      | inl g ↦ nat_cmp-less (n * 10 + p) (m * 10 + q) (omega arith) ∙ sym (nat_cmp-less x y (omega arith))
      | inr g ↦ nat_cmp-greater (n * 10 + p) (m * 10 + q) (omega arith) ∙ sym (nat_cmp-greater x y (omega arith))
    ]
  ])
  | inr apart ↦ elim apart [
    | inl less ↦ rw (nat_cmp-less n m less) (nat_cmp-less (n * 10 + p) (m * 10 + q) (omega arith))
    | inr more ↦ rw (nat_cmp-greater n m more) (nat_cmp-greater (n * 10 + p) (m * 10 + q) (omega arith))
  ]
]

digit_cmp : (n m x y : ℕ) → is_ascii_digit x ≡ true → is_ascii_digit y ≡ true
    → nat_cmp (n * 10 + digit_value x) (m * 10 + digit_value y) ≡ ordering_then (nat_cmp n m) (nat_cmp x y)
digit_cmp n m x y a b =
    let d = digit_byte x a in
    let e = digit_byte y b in
    rw (d.2, e.2) (step_cmp n m (x - 48) (y - 48) x y (omega (arith, d.0, d.1)) (omega (arith, e.0, e.1)) (omega (arith, d.0)) (omega (arith, e.0)))

same_length_cmp : (xs ys : List ℕ) (n m : ℕ) → list_all is_ascii_digit xs ≡ true → list_all is_ascii_digit ys ≡ true → length xs ≡ length ys →
    nat_cmp (digits_value_after 10 n xs) (digits_value_after 10 m ys) ≡ ordering_then (nat_cmp n m) (slice_cmp nat_cmp xs ys)
same_length_cmp [] [] n m a b e = sym (then_equal (nat_cmp n m))
same_length_cmp [] (y ∷ ys) n m a b e = absurd (omega (arith, e))
same_length_cmp (x ∷ xs) [] n m a b e = absurd (omega (arith, e))
same_length_cmp (x ∷ xs) (y ∷ ys) n m a b e =
    let p = and_parts (is_ascii_digit x) (list_all is_ascii_digit xs) a in
    let q = and_parts (is_ascii_digit y) (list_all is_ascii_digit ys) b in
    same_length_cmp xs ys (n * 10 + digit_value x) (m * 10 + digit_value y) p.1 q.1 (omega (arith, e))
    ∙ ap (λ o. ordering_then o (slice_cmp nat_cmp xs ys)) (digit_cmp n m x y p.0 q.0)
    ∙ sym (then_assoc (nat_cmp n m) (nat_cmp x y) (slice_cmp nat_cmp xs ys))

-- ---- numbers of different lengths

-- a number that is ahead stays ahead, where the other has no more digits to come
ahead : (xs ys : List ℕ) (n m : ℕ) → list_all is_ascii_digit xs ≡ true → length xs ≤ length ys → n < m → digits_value_after 10 n xs < digits_value_after 10 m ys
ahead [] ys n m all h less = lt_of_lt_of_le less (value_grows m ys)
ahead (x ∷ xs) [] n m all h less = absurd (omega (arith, h))
ahead (x ∷ xs) (y ∷ ys) n m all h less =
    let p = and_parts (is_ascii_digit x) (list_all is_ascii_digit xs) all in
    let d = digit_byte x p.0 in
    ahead xs ys (n * 10 + digit_value x) (m * 10 + digit_value y) p.1 (omega (arith, h)) (omega (arith, d.0, d.1, d.2, less))

shorter_is_less : (xs ys : List ℕ) → list_all is_ascii_digit xs ≡ true → list_all is_ascii_digit ys ≡ true → HasNoZero ys → length xs < length ys
    → digits_value 10 xs < digits_value 10 ys
shorter_is_less xs [] a b first h = absurd (omega arith)
shorter_is_less xs (y ∷ ys) a b first h =
    let d = digit_byte y (and_parts (is_ascii_digit y) (list_all is_ascii_digit ys) b).0 in
    let other : y ≢ 48 = eqb-false y 48 first in
    ahead xs ys 0 (0 * 10 + digit_value y) a (omega (arith, h)) (omega (arith, d.0, d.2, other))

pub digits_cmp : (xs ys : List ℕ) → list_all is_ascii_digit xs ≡ true → list_all is_ascii_digit ys ≡ true → HasNoZero xs → HasNoZero ys →
    nat_cmp (digits_value 10 xs) (digits_value 10 ys) ≡ ordering_then (nat_cmp (length xs) (length ys)) (slice_cmp nat_cmp xs ys)
digits_cmp xs ys a b f g = elim (cases_order (length xs) (length ys)) [
  | inl same ↦ rw (nat_cmp-same (length xs) (length ys) same) (same_length_cmp xs ys 0 0 a b same)
  | inr apart ↦ elim apart [
    | inl less ↦ rw (nat_cmp-less (length xs) (length ys) less) (nat_cmp-less (digits_value 10 xs) (digits_value 10 ys) (shorter_is_less xs ys a b g less))
    | inr more ↦ rw (nat_cmp-greater (length xs) (length ys) more)
        (nat_cmp-greater (digits_value 10 xs) (digits_value 10 ys) (shorter_is_less ys xs b a f more))
  ]
]
