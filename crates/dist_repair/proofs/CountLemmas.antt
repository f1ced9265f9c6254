-- How many of the first numbers pass a test, and the clauses that count them.
use Rattle.std.proofs.Common.{◌≡◌, ℕ, zero, suc, ◌+◌, ◌<◌, ◌≤◌, Bool, true, false, [], ◌∷◌, refl, sym, ap, ◌∙◌, arith, inl, inr}
use Rattle.std.proofs.lemmas.Bool.{false≢true}
use Rattle.std.proofs.lemmas.List.Elements.{All-cons, All-head, All-nil, All-tail}
use Rattle.dist_base.specs.ListLaws.{any-cases, any-head, any-later}
use Rattle.dist_clause.specs.Formula.{Literal, IsModel, IsTrueLiteral, MakesTrue}
use Rattle.dist_repair.specs.Counters.{Counter, count_clauses, more, moved, no, yes}

-- how many numbers below a bound pass
add : Bool → ℕ → ℕ
add true count = count + 1
add false count = count

pub count : (ℕ → Bool) → ℕ → ℕ
count test zero = 0
count test (suc n) = add (test n) (count test n)

pub count-true : (test : ℕ → Bool) (n : ℕ) → test n ≡ true → count test (suc n) ≡ count test n + 1
unfolding count add
count-true test n is = ap (λ (b : Bool). add b (count test n)) is

pub count-false : (test : ℕ → Bool) (n : ℕ) → test n ≡ false → count test (suc n) ≡ count test n
unfolding count add
count-false test n is = ap (λ (b : Bool). add b (count test n)) is

pub count-grows : (test : ℕ → Bool) (n : ℕ) → count test n ≤ count test (suc n)
count-grows test n = by (test n) refl
  where
    by : (b : Bool) → test n ≡ b → count test n ≤ count test (suc n)
    by true is = let one = count-true test n is in omega (arith, one)
    by false is = let same = count-false test n is in omega (arith, same)

pub count-none : (test : ℕ → Bool) → count test 0 ≡ 0
unfolding count
count-none test = refl

-- ---- clauses of two and three literals

pub two-cases : (value : ℕ → Bool) (a b : Literal) → MakesTrue value (a ∷ b ∷ []) → ¬ IsTrueLiteral value a → IsTrueLiteral value b
two-cases value a b any not = elim (any-cases (IsTrueLiteral value) a (b ∷ []) any) [
  | inl here ↦ absurd (not here)
  | inr later ↦ elim (any-cases (IsTrueLiteral value) b [] later) [
    | inl here ↦ here
    | inr none ↦ absurd (omega (arith, none.2))
  ]
]

three-cases : (value : ℕ → Bool) (a b c : Literal) → MakesTrue value (a ∷ b ∷ c ∷ []) → ¬ IsTrueLiteral value a → ¬ IsTrueLiteral value b
    → IsTrueLiteral value c
three-cases value a b c any not never = elim (any-cases (IsTrueLiteral value) a (b ∷ c ∷ []) any) [
  | inl here ↦ absurd (not here)
  | inr later ↦ two-cases value b c later never
]

pub true-not : (value : ℕ → Bool) (v : ℕ) → value v ≡ true → ¬ IsTrueLiteral value (no v)
true-not value v is off = false≢true (sym off ∙ is)

pub implies : (value : ℕ → Bool) (a b : ℕ) → (value a ≡ true → value b ≡ true) → MakesTrue value (no a ∷ yes b ∷ [])
implies value a b then = by (value a) refl
  where
    by : (v : Bool) → value a ≡ v → MakesTrue value (no a ∷ yes b ∷ [])
    by true is = any-later (IsTrueLiteral value) (no a) (yes b ∷ []) (any-head (IsTrueLiteral value) (yes b) [] (then is))
    by false is = any-head (IsTrueLiteral value) (no a) (yes b ∷ []) is

both-imply : (value : ℕ → Bool) (a b c : ℕ) → (value a ≡ true → value b ≡ true → value c ≡ true) → MakesTrue value (no a ∷ no b ∷ yes c ∷ [])
both-imply value a b c then = by (value a) refl
  where
    by : (v : Bool) → value a ≡ v → MakesTrue value (no a ∷ no b ∷ yes c ∷ [])
    by true is = any-later (IsTrueLiteral value) (no a) (no b ∷ yes c ∷ []) (implies value b c (then is))
    by false is = any-head (IsTrueLiteral value) (no a) (no b ∷ yes c ∷ []) is

-- ---- what the clauses give

module _ (t : Counter) (value : ℕ → Bool) (model : (c j : ℕ) → c < t.clusters → j < t.most + 1 → IsModel value (count_clauses t c j)) where
  pub counted : (c j : ℕ) → c < t.clusters → j ≤ t.most → j < count (λ c. value (moved t c)) (suc c) → value (more t c j) ≡ true
  unfolding count_clauses
  counted zero zero short within less = by (value (moved t 0)) refl
    where
      by : (b : Bool) → value (moved t 0) ≡ b → value (more t 0 0) ≡ true
      by true is = two-cases value (no (moved t 0)) (yes (more t 0 0))
          (All-head (MakesTrue value) (no (moved t 0) ∷ yes (more t 0 0) ∷ []) [] (model 0 0 short (omega arith))) (true-not value (moved t 0) is)
      by false is =
          let one = count-false (λ c. value (moved t c)) 0 is in
          let none = count-none (λ c. value (moved t c)) in
          absurd (omega (arith, less, one, none))
  counted zero (suc j) short within less = by (value (moved t 0)) refl
    where
      by : (b : Bool) → value (moved t 0) ≡ b → value (more t 0 (suc j)) ≡ true
      by true is =
          let one = count-true (λ c. value (moved t c)) 0 is in
          let none = count-none (λ c. value (moved t c)) in
          absurd (omega (arith, less, one, none))
      by false is =
          let one = count-false (λ c. value (moved t c)) 0 is in
          let none = count-none (λ c. value (moved t c)) in
          absurd (omega (arith, less, one, none))
  counted (suc c) zero short within less =
      step (value (moved t (suc c))) refl (λ before. counted c 0 (omega (arith, short)) within before)
    where
      step : (b : Bool) → value (moved t (suc c)) ≡ b → (0 < count (λ c. value (moved t c)) (suc c) → value (more t c 0) ≡ true)
          → value (more t (suc c) 0) ≡ true
      step true is before = two-cases value (no (moved t (suc c))) (yes (more t (suc c) 0))
          (All-head (MakesTrue value) (no (moved t (suc c)) ∷ yes (more t (suc c) 0) ∷ []) []
          (All-tail (MakesTrue value) (no (more t c 0) ∷ yes (more t (suc c) 0) ∷ []) ((no (moved t (suc c)) ∷ yes (more t (suc c) 0) ∷ []) ∷ [])
          (model (suc c) 0 short (omega arith)))) (true-not value (moved t (suc c)) is)
      step false is before =
          let same = count-false (λ c. value (moved t c)) (suc c) is in
          two-cases value (no (more t c 0)) (yes (more t (suc c) 0))
          (All-head (MakesTrue value) (no (more t c 0) ∷ yes (more t (suc c) 0) ∷ []) ((no (moved t (suc c)) ∷ yes (more t (suc c) 0) ∷ []) ∷ [])
          (model (suc c) 0 short (omega arith))) (true-not value (more t c 0) (before (omega (arith, less, same))))
  counted (suc c) (suc j) short within less =
      step (value (moved t (suc c))) refl (λ before. counted c (suc j) (omega (arith, short)) within before)
      (λ before. counted c j (omega (arith, short)) (omega (arith, within)) before)
    where
      step : (b : Bool) → value (moved t (suc c)) ≡ b → (suc j < count (λ c. value (moved t c)) (suc c) → value (more t c (suc j)) ≡ true)
          → (j < count (λ c. value (moved t c)) (suc c) → value (more t c j) ≡ true) → value (more t (suc c) (suc j)) ≡ true
      step true is same fewer =
          let one = count-true (λ c. value (moved t c)) (suc c) is in
          three-cases value (no (moved t (suc c))) (no (more t c j)) (yes (more t (suc c) (suc j)))
          (All-head (MakesTrue value) (no (moved t (suc c)) ∷ no (more t c j) ∷ yes (more t (suc c) (suc j)) ∷ []) []
          (All-tail (MakesTrue value) (no (more t c (suc j)) ∷ yes (more t (suc c) (suc j)) ∷ [])
          ((no (moved t (suc c)) ∷ no (more t c j) ∷ yes (more t (suc c) (suc j)) ∷ []) ∷ [])
          (model (suc c) (suc j) short (omega (arith, within))))) (true-not value (moved t (suc c)) is)
          (true-not value (more t c j) (fewer (omega (arith, less, one))))
      step false is same fewer =
          let one = count-false (λ c. value (moved t c)) (suc c) is in
          two-cases value (no (more t c (suc j))) (yes (more t (suc c) (suc j)))
          (All-head (MakesTrue value) (no (more t c (suc j)) ∷ yes (more t (suc c) (suc j)) ∷ [])
          ((no (moved t (suc c)) ∷ no (more t c j) ∷ yes (more t (suc c) (suc j)) ∷ []) ∷ [])
          (model (suc c) (suc j) short (omega (arith, within)))) (true-not value (more t c (suc j)) (same (omega (arith, less, one))))

-- ---- a model of the clauses

-- the clauses are true where the variables say what they count
module _ (t : Counter) (value : ℕ → Bool)
    (says : (c j : ℕ) → c < t.clusters → j ≤ t.most → (value (more t c j) ≡ true → j < count (λ c. value (moved t c)) (suc c))
    × (j < count (λ c. value (moved t c)) (suc c) → value (more t c j) ≡ true)) where
  its-count : ℕ → ℕ
  its-count n = count (λ c. value (moved t c)) n

  pub counting-model : (c j : ℕ) → c < t.clusters → j ≤ t.most → IsModel value (count_clauses t c j)
  unfolding count_clauses
  counting-model zero zero short within = All-cons (MakesTrue value) (no (moved t 0) ∷ yes (more t 0 0) ∷ []) []
      (implies value (moved t 0) (more t 0 0) (λ is. (says 0 0 short within).1
      (let one = count-true (λ c. value (moved t c)) 0 is in omega (arith, one)))) (All-nil (MakesTrue value))
  counting-model zero (suc j) short within = All-nil (MakesTrue value)
  counting-model (suc c) zero short within =
      All-cons (MakesTrue value) (no (more t c 0) ∷ yes (more t (suc c) 0) ∷ []) ((no (moved t (suc c)) ∷ yes (more t (suc c) 0) ∷ []) ∷ [])
      (implies value (more t c 0) (more t (suc c) 0) (λ is. (says (suc c) 0 short within).1
      (let before = (says c 0 (omega (arith, short)) within).0 is in
      let grows = count-grows (λ c. value (moved t c)) (suc c) in omega (arith, before, grows))))
      (All-cons (MakesTrue value) (no (moved t (suc c)) ∷ yes (more t (suc c) 0) ∷ []) []
      (implies value (moved t (suc c)) (more t (suc c) 0) (λ is. (says (suc c) 0 short within).1
      (let one = count-true (λ c. value (moved t c)) (suc c) is in omega (arith, one)))) (All-nil (MakesTrue value)))
  counting-model (suc c) (suc j) short within =
      All-cons (MakesTrue value) (no (more t c (suc j)) ∷ yes (more t (suc c) (suc j)) ∷ [])
      ((no (moved t (suc c)) ∷ no (more t c j) ∷ yes (more t (suc c) (suc j)) ∷ []) ∷ [])
      (implies value (more t c (suc j)) (more t (suc c) (suc j)) (λ is. (says (suc c) (suc j) short within).1
      (let before = (says c (suc j) (omega (arith, short)) within).0 is in
      let grows = count-grows (λ c. value (moved t c)) (suc c) in omega (arith, before, grows))))
      (All-cons (MakesTrue value) (no (moved t (suc c)) ∷ no (more t c j) ∷ yes (more t (suc c) (suc j)) ∷ []) []
      (both-imply value (moved t (suc c)) (more t c j) (more t (suc c) (suc j)) (λ is also. (says (suc c) (suc j) short within).1
      (let one = count-true (λ c. value (moved t c)) (suc c) is in
      let before = (says c j (omega (arith, short)) (omega (arith, within))).0 also in omega (arith, one, before))))
      (All-nil (MakesTrue value)))
