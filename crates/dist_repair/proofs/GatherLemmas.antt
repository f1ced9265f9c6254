-- The numbers below a bound that pass a test, and what is decided of numbers below a bound.
use Rattle.std.proofs.Common.{◌≡◌, ◌↔◌, ℕ, zero, suc, ◌+◌, ◌<◌, ◌≤◌, Bool, true, false, List, [], ◌∷◌, ◌++◌, length, length-append, get_or, refl, sym, ap}
use Rattle.std.proofs.Common.{subst, ◌∙◌, arith, inl, inr}
use Rattle.std.specs.Prelude.{Contains}
use Rattle.std.specs.List.Sorted.{IsStrictlyIncreasing}
use Rattle.std.proofs.lemmas.Bool.{cases_lt, false≢true}
use Rattle.std.proofs.lemmas.List.{get_or_append_left, get_or_default, get_or_push}
use Rattle.std.proofs.lemmas.List.Elements.{Contains-append_left, Contains-push, Contains-push_cases}
use Rattle.dist_base.specs.ListLaws.{any-contained, any-there}
use Rattle.dist_base.specs.RowLaws.{same-numbers}
use Rattle.dist_repo.specs.DecidedLaws.{IsDecided, any-decided, same-as}
use Rattle.dist_repair.proofs.CountLemmas.{count, count-false, count-grows, count-none, count-true}

-- ---- what is decided

pub answer : {P : Type 0} → IsDecided P → Bool
answer (inl p) = true
answer (inr never) = false

pub answer-from : {P : Type 0} (d : IsDecided P) → answer d ≡ true → P
unfolding answer
answer-from (inl p) is = p
answer-from (inr never) is = cc

pub answer-true : {P : Type 0} (d : IsDecided P) → P → answer d ≡ true
unfolding answer
answer-true (inl p) holds = refl
answer-true (inr never) holds = absurd (never holds)

pub answer-false : {P : Type 0} (d : IsDecided P) → ¬ P → answer d ≡ false
unfolding answer
answer-false (inl p) none = absurd (none p)
answer-false (inr never) none = refl

pub true-decided : (b : Bool) → IsDecided (b ≡ true)
true-decided true = inl refl
true-decided false = inr (λ is. false≢true is)

pub below-decided : (P : ℕ → Type 0) → ((k : ℕ) → IsDecided (P k)) → (n : ℕ) → IsDecided ((k : ℕ) × (k < n) × P k)
below-decided P each zero = inr (λ some. omega (arith, some.1))
below-decided P each (suc n) = elim (below-decided P each n) [
  | inl some ↦ inl (some.0, omega (arith, some.1), some.2)
  | inr none ↦ elim (each n) [
    | inl here ↦ inl (n, omega arith, here)
    | inr other ↦ inr (λ some. elim (cases_lt some.0 n) [
      | inl less ↦ none (some.0, less, some.2)
      | inr most ↦ let same : some.0 ≡ n = omega (arith, some.1, most) in other (subst P same some.2)
    ])
  ]
]

pub number-decided : (m n : ℕ) → IsDecided (m ≡ n)
number-decided m n = elim (cases_lt m n) [
  | inl less ↦ inr (λ same. omega (arith, less, same))
  | inr more ↦ elim (cases_lt n m) [
    | inl less ↦ inr (λ same. omega (arith, less, same))
    | inr most ↦ inl (omega (arith, more, most))
  ]
]

pub there-decided : (numbers : List ℕ) (n : ℕ) → IsDecided (Contains numbers n)
there-decided numbers n = same-as (λ any. subst (Contains numbers) any.4 (any-there (λ m. m ≡ n) numbers any))
    (λ there. any-contained (λ m. m ≡ n) numbers n there refl)
    (any-decided (λ m. m ≡ n) (λ m. number-decided m n) numbers)

pub less-decided : (m n : ℕ) → IsDecided (m < n)
less-decided m n = elim (cases_lt m n) [
  | inl less ↦ inl less
  | inr more ↦ inr (λ less. omega (arith, less, more))
]

-- ---- the numbers that pass

pub record Gathered (test : ℕ → Bool) (n : ℕ) : Type 0 where
  pub numbers : List ℕ
  pub rising : IsStrictlyIncreasing numbers
  pub exact : (c : ℕ) → Contains numbers c ↔ ((c < n) × (test c ≡ true))
  pub size : length numbers ≡ count test n

rises-push : (xs : List ℕ) (y : ℕ) → IsStrictlyIncreasing xs → ((k : ℕ) → Contains xs k → k < y) → IsStrictlyIncreasing (xs ++ y ∷ [])
rises-push xs y rising bound k short =
    let total : length (xs ++ y ∷ []) ≡ length xs + 1 = length-append xs (y ∷ []) in
    elim (cases_lt (k + 1) (length xs)) [
      | inl h ↦
          let left = get_or_append_left xs (y ∷ []) 0 k (omega (arith, h)) in
          let right = get_or_append_left xs (y ∷ []) 0 (k + 1) h in
          let less = rising k h in
          omega (arith, less, left, right)
      | inr h ↦
          let at : length xs ≡ k + 1 = omega (arith, h, total, short) in
          let left = get_or_append_left xs (y ∷ []) 0 k (omega (arith, at)) in
          let right = get_or_push xs y 0 (k + 1) at in
          let here : k < length xs = omega (arith, at) in
          let most = bound (get_or xs k 0) (k, here, get_or_default xs k (get_or xs k 0) 0 here) in
          omega (arith, left, right, most)
    ]

pub gathered : (test : ℕ → Bool) (n : ℕ) → Gathered test n
gathered test zero = record {
  numbers = [];
  rising = λ k short. absurd (omega (arith, short));
  exact = λ c. ((λ there. absurd (omega (arith, there.1))), λ both. absurd (omega (arith, both.0)));
  size = sym (count-none test);
}
gathered test (suc n) = by (test n) refl (gathered test n)
  where
    by : (b : Bool) → test n ≡ b → Gathered test n → Gathered test (suc n)
    by true is before = record {
      numbers = before.numbers ++ n ∷ [];
      rising = rises-push before.numbers n before.rising (λ k there. ((before.exact k).0 there).0);
      exact = λ c. (
        (λ there. elim (Contains-push_cases before.numbers n c there) [
          | inl earlier ↦ let both = (before.exact c).0 earlier in (omega (arith, both.0), both.1)
          | inr same ↦ (omega (arith, same), ap test (sym same) ∙ is)
        ]),
        λ both. elim (cases_lt c n) [
          | inl less ↦ Contains-append_left before.numbers (n ∷ []) c ((before.exact c).1 (less, both.1))
          | inr most ↦ let same : n ≡ c = omega (arith, both.0, most) in subst (Contains (before.numbers ++ n ∷ [])) same (Contains-push before.numbers n)
        ],
      );
      size = let total = length-append before.numbers (n ∷ []) in let one = count-true test n is in let s = before.size in omega (arith, total, one, s);
    }
    by false is before = record {
      numbers = before.numbers;
      rising = before.rising;
      exact = λ c. (
        (λ there. let both = (before.exact c).0 there in (omega (arith, both.0), both.1)),
        λ both. elim (cases_lt c n) [
          | inl less ↦ (before.exact c).1 (less, both.1)
          | inr most ↦ let same : c ≡ n = omega (arith, both.0, most) in absurd (false≢true (sym is ∙ ap test (sym same) ∙ both.1))
        ],
      );
      size = before.size ∙ sym (count-false test n is);
    }

-- of two tests the wider passes as many or more
pub count-wider : (first second : ℕ → Bool) (n : ℕ) → ((c : ℕ) → c < n → first c ≡ true → second c ≡ true) → count first n ≤ count second n
count-wider first second zero wider = let a = count-none first in let b = count-none second in omega (arith, a, b)
count-wider first second (suc n) wider =
    by (first n) refl (second n) refl (count-wider first second n (λ c short. wider c (omega (arith, short))))
  where
    by : (a : Bool) → first n ≡ a → (b : Bool) → second n ≡ b → count first n ≤ count second n → count first (suc n) ≤ count second (suc n)
    by true is true also before =
        let one = count-true first n is in
        let two = count-true second n also in
        omega (arith, one, two, before)
    by true is false also before = absurd (false≢true (sym also ∙ wider n (omega arith) is))
    by false is b also before =
        let same = count-false first n is in
        let grows = count-grows second n in
        omega (arith, same, before, grows)

-- rising numbers below a bound are as many as pass the test that they are among them
pub count-numbers : (numbers : List ℕ) (n : ℕ) → IsStrictlyIncreasing numbers → ((c : ℕ) → Contains numbers c → c < n)
    → length numbers ≡ count (λ c. answer (there-decided numbers c)) n
count-numbers numbers n rising within =
    let all = gathered (λ c. answer (there-decided numbers c)) n in
    let same : all.numbers ≡ numbers = same-numbers numbers all.numbers rising all.rising
    (λ c there. (all.exact c).1 (within c there, answer-true (there-decided numbers c) there))
    (λ c there. answer-from (there-decided numbers c) ((all.exact c).0 there).1) in
    ap length (sym same) ∙ all.size
