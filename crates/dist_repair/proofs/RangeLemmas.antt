-- The numbers of a range that pass a test.
use Rattle.std.proofs.Common.{◌≡◌, ◌↔◌, inl, inr, ℕ, ◌+◌, ◌<◌, Bool, true, false, List, [], ◌∷◌, refl, sym, ap, subst, ◌∙◌, arith}
use Rattle.std.specs.Prelude.{AllPairs, Contains, filter}
use Rattle.std.specs.List.{list_any, range_with_len}
use Rattle.std.specs.List.Sorted.{IsStrictlyIncreasing}
use Rattle.std.proofs.lemmas.Bool.{cases_Bool, cond-false, cond-true, false≢true, or_cases, or_left, or_right, true≢false}
use Rattle.std.proofs.lemmas.List.Elements.{All-contains, All-contains_itself, All-filter, filter_passes}
use Rattle.dist_base.specs.ListLaws.{pairs-head, pairs-tail}
use Rattle.dist_cert.specs.ListLaws.{contains-cases, contains-later}
use Rattle.dist_space.specs.RisingLaws.{below-in, in-below, pairs-below, pairs-cons}

-- ---- filters

pub in-filter : {X : Type 0} (test : X → Bool) (xs : List X) (x : X) → Contains (filter test xs) x → Contains xs x × (test x ≡ true)
in-filter test xs x there = (
  All-contains (Contains xs) (filter test xs) x (All-filter test (Contains xs) xs (All-contains_itself xs)) there,
  All-contains (λ y. test y ≡ true) (filter test xs) x (filter_passes test xs) there,
)

pub filter-in : {X : Type 0} (test : X → Bool) (xs : List X) (x : X) → Contains xs x → test x ≡ true → Contains (filter test xs) x
filter-in test [] x there passes = there
filter-in {X} test (y ∷ xs) x there passes = elim (contains-cases y xs x there) [
  | inl here ↦ subst (λ zs. Contains zs x) (sym (cond-true (test y) (y ∷ filter test xs) (filter test xs) (ap test here ∙ passes)))
      (0, omega arith, here)
  | inr later ↦ elim (cases_Bool (test y)) [
    | inl on ↦ subst (λ zs. Contains zs x) (sym (cond-true (test y) (y ∷ filter test xs) (filter test xs) on))
        (contains-later y (filter test xs) x (filter-in test xs x later passes))
    | inr off ↦ subst (λ zs. Contains zs x) (sym (cond-false (test y) (y ∷ filter test xs) (filter test xs) off))
        (filter-in test xs x later passes)
  ]
]

pub filter-pairs : (R : ℕ → ℕ → Type 0) (test : ℕ → Bool) (xs : List ℕ) → AllPairs R xs → AllPairs R (filter test xs)
filter-pairs R test [] pairs = pairs
filter-pairs R test (y ∷ xs) pairs = elim (cases_Bool (test y)) [
  | inl on ↦ subst (AllPairs R) (sym (cond-true (test y) (y ∷ filter test xs) (filter test xs) on))
      (pairs-cons R y (filter test xs) (λ z there. pairs-head R y xs pairs z (in-filter test xs z there).0) (filter-pairs R test xs (pairs-tail R y xs pairs)))
  | inr off ↦ subst (AllPairs R) (sym (cond-false (test y) (y ∷ filter test xs) (filter test xs) off)) (filter-pairs R test xs (pairs-tail R y xs pairs))
]

-- ---- ranges

-- the numbers below n that pass a test rise
pub passing-rise : (test : ℕ → Bool) (n : ℕ) → IsStrictlyIncreasing (filter test (range_with_len 0 n))
passing-rise test n k short =
    filter-pairs (λ a b. a < b) test (range_with_len 0 n) (pairs-below (λ a b. a < b) n (λ i j less. less)) k (k + 1) 0 (omega arith) short

-- and are those
pub passing-exact : (test : ℕ → Bool) (n c : ℕ) → Contains (filter test (range_with_len 0 n)) c ↔ ((c < n) × (test c ≡ true))
passing-exact test n c = (
  (λ there. let both = in-filter test (range_with_len 0 n) c there in (in-below n c both.0, both.1)),
  λ both. filter-in test (range_with_len 0 n) c (below-in n c both.0) both.1,
)

-- some number of a list passes
pub any-in : (test : ℕ → Bool) (xs : List ℕ) (x : ℕ) → Contains xs x → test x ≡ true → list_any test xs ≡ true
any-in test [] x there passes = absurd (omega (arith, there.1))
any-in test (y ∷ xs) x there passes = elim (contains-cases y xs x there) [
  | inl here ↦ or_left (test y) (list_any test xs) (ap test here ∙ passes)
  | inr later ↦ or_right (test y) (list_any test xs) (any-in test xs x later passes)
]

pub in-any : (test : ℕ → Bool) (xs : List ℕ) → list_any test xs ≡ true → (x : ℕ) × Contains xs x × (test x ≡ true)
in-any test [] on = absurd (false≢true on)
in-any test (y ∷ xs) on = elim (or_cases (test y) (list_any test xs) on) [
  | inl here ↦ (y, (0, omega arith, refl), here)
  | inr later ↦ let rest = in-any test xs later in (rest.0, contains-later y xs rest.0 rest.1, rest.2)
]

pub some-below : (test : ℕ → Bool) (n : ℕ) → (list_any test (range_with_len 0 n) ≡ true) ↔ ((k : ℕ) × (k < n) × (test k ≡ true))
some-below test n = (
  (λ on. let at = in-any test (range_with_len 0 n) on in (at.0, in-below n at.0 at.1, at.2)),
  λ at. any-in test (range_with_len 0 n) at.0 (below-in n at.0 at.1) at.2,
)

pub none-below : (test : ℕ → Bool) (n : ℕ) → ((k : ℕ) → k < n → test k ≡ false) → list_any test (range_with_len 0 n) ≡ false
none-below test n none = elim (cases_Bool (list_any test (range_with_len 0 n))) [
  | inl on ↦ let at = (some-below test n).0 on in absurd (true≢false (sym at.2 ∙ none at.0 at.1))
  | inr off ↦ off
]

-- tests that agree below n
pub same-any : (first second : ℕ → Bool) (n : ℕ) → ((k : ℕ) → k < n → first k ≡ second k)
    → list_any first (range_with_len 0 n) ≡ list_any second (range_with_len 0 n)
same-any first second n same = elim (cases_Bool (list_any first (range_with_len 0 n))) [
  | inl on ↦
      let at = (some-below first n).0 on in
      on ∙ sym ((some-below second n).1 (at.0, at.1, sym (same at.0 at.1) ∙ at.2))
  | inr off ↦ elim (cases_Bool (list_any second (range_with_len 0 n))) [
    | inr also ↦ off ∙ sym also
    | inl on ↦
        let at = (some-below second n).0 on in
        absurd (true≢false (sym ((some-below first n).1 (at.0, at.1, same at.0 at.1 ∙ at.2)) ∙ off))
  ]
]
