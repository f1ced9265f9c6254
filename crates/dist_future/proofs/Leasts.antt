-- The least number with a property: of one of two properties, and as numbers are gone through.
use Rattle.std.proofs.Common.{◌≡◌, ◌⊎◌, ℕ, ◌+◌, ◌<◌, Option, None, Some, true, false, sym, subst, inl, inr, arith}
use Rattle.std.specs.Option.{is_some}
use Rattle.std.proofs.lemmas.Bool.{cases_lt, false≢true}
use Rattle.dist_base.specs.Least.{IsLeast, IsLeastIfAny, IsLeastPair}
use Rattle.dist_future.specs.MatchingPrivate.{IsLesserOf}

-- one of those so far
abbrev pub Before : (ℕ → ℕ → Type 0) → ℕ → ℕ → Type 0
Before F n v = (i : ℕ) × (i < n) × F i v

pub least-shift : (P Q : ℕ → Type 0) (o : Option ℕ) → ((v : ℕ) → P v → Q v) → ((v : ℕ) → Q v → P v) → IsLeastIfAny P o → IsLeastIfAny Q o
least-shift P Q None to from none = λ v q. none v (from v q)
least-shift P Q (Some a) to from least = record { holds = to a least.holds; least = λ v q. least.least v (from v q) }

pub least-two : (P Q : ℕ → Type 0) (a b r : Option ℕ) → IsLesserOf a b r → IsLeastIfAny P a → IsLeastIfAny Q b → IsLeastIfAny (λ v. P v ⊎ Q v) r
least-two P Q None b r is none second =
    subst (IsLeastIfAny (λ v. P v ⊎ Q v)) (sym is) (least-shift Q (λ v. P v ⊎ Q v) b (λ v q. inr q) (λ v h. elim h [
      | inl p ↦ absurd (none v p)
      | inr q ↦ q
    ]) second)
least-two P Q (Some a) None r is first none =
    subst (IsLeastIfAny (λ v. P v ⊎ Q v)) (sym is) (least-shift P (λ v. P v ⊎ Q v) (Some a) (λ v p. inl p) (λ v h. elim h [
      | inl p ↦ p
      | inr q ↦ absurd (none v q)
    ]) first)
least-two P Q (Some a) (Some b) None is first second = absurd is
least-two P Q (Some a) (Some b) (Some n) is first second = record {
  holds = elim is.2 [
    | inl same ↦ inl (subst P (sym same) first.holds)
    | inr same ↦ inr (subst Q (sym same) second.holds)
  ];
  least = λ v h. elim h [
    | inl p ↦ let most = first.least v p in omega (arith, most, is.0)
    | inr q ↦ let most = second.least v q in omega (arith, most, is.1)
  ];
}

-- by a test whether there is one
pub some-found : (P : ℕ → Type 0) (o : Option ℕ) → is_some o ≡ true → IsLeastIfAny P o → (v : ℕ) × P v
some-found P None is least = absurd (false≢true is)
some-found P (Some v) is least = (v, least.holds)

pub none-found : (P : ℕ → Type 0) (o : Option ℕ) → is_some o ≡ false → IsLeastIfAny P o → (v : ℕ) → ¬ P v
none-found P None is least = least
none-found P (Some v) is least = absurd (false≢true (sym is))

-- ---- gone through

more-split : (F : ℕ → ℕ → Type 0) (n v : ℕ) → Before F (n + 1) v → Before F n v ⊎ F n v
more-split F n v (i, short, holds) = elim (cases_lt i n) [
  | inl less ↦ inl (i, less, holds)
  | inr past ↦ let same : i ≡ n = omega (arith, short, past) in inr (let At : ℕ → Type 0 = λ k. F k v in subst At same holds)
]

split-more : (F : ℕ → ℕ → Type 0) (n v : ℕ) → Before F n v ⊎ F n v → Before F (n + 1) v
split-more F n v (inl (i, short, holds)) = (i, omega (arith, short), holds)
split-more F n v (inr holds) = (n, omega arith, holds)

pub least-more : (F : ℕ → ℕ → Type 0) (n : ℕ) (a b r : Option ℕ) → IsLesserOf a b r → IsLeastIfAny (Before F n) a → IsLeastIfAny (F n) b
    → IsLeastIfAny (Before F (n + 1)) r
least-more F n a b r is first second = least-shift (λ v. Before F n v ⊎ F n v) (Before F (n + 1)) r (split-more F n) (more-split F n)
    (least-two (Before F n) (F n) a b r is first second)

pub least-skip : (F : ℕ → ℕ → Type 0) (n : ℕ) (a : Option ℕ) → ((v : ℕ) → ¬ F n v) → IsLeastIfAny (Before F n) a → IsLeastIfAny (Before F (n + 1)) a
least-skip F n a none first = least-shift (Before F n) (Before F (n + 1)) a (λ v h. split-more F n v (inl h)) (λ v h. elim (more-split F n v h) [
  | inl before ↦ before
  | inr now ↦ absurd (none v now)
]) first

pub before-none : (F : ℕ → ℕ → Type 0) (v : ℕ) → ¬ Before F 0 v
before-none F v (i, short, holds) = omega (arith, short)

-- ---- rows

-- no pair of the rows so far, and no number so far
abbrev pub IsNoneBelow : (ℕ → ℕ → Type 0) → ℕ → Type 0
IsNoneBelow P number = (n k : ℕ) → n < number → ¬ P n k

abbrev pub IsNoneTo : (ℕ → Type 0) → ℕ → Type 0
IsNoneTo P count = (n : ℕ) → n < count → ¬ P n

pub row-none : (P : ℕ → ℕ → Type 0) (n : ℕ) → IsNoneBelow P n → ((k : ℕ) → ¬ P n k) → IsNoneBelow P (n + 1)
row-none P n none here m k short = elim (cases_lt m n) [
  | inl less ↦ none m k less
  | inr past ↦ let same : n ≡ m = omega (arith, short, past) in let Row : ℕ → Type 0 = λ i. ¬ P i k in subst Row same (here k)
]

pub row-some : (P : ℕ → ℕ → Type 0) (n k : ℕ) → IsNoneBelow P n → IsLeast (P n) k → IsLeastPair P n k
row-some P n k none row = record {
  holds = row.holds;
  least = λ m j holds. elim (cases_lt n m) [
    | inl less ↦ inl less
    | inr past ↦ elim (cases_lt m n) [
      | inl less ↦ absurd (none m j less holds)
      | inr also ↦ let same : m ≡ n = omega (arith, past, also) in let Row : ℕ → Type 0 = λ i. P i j in inr (sym same, row.least j (subst Row same holds))
    ]
  ];
}
