-- Laws of the true variables of some values. Proofs cite them, those of the crates above too.
use Rattle.std.proofs.Common.{◌≡◌, ◌↔◌, inl, inr, ℕ, zero, suc, ◌+◌, ◌<◌, ◌≤◌, Bool, true, false, List, ◌∷◌, filter}
use Rattle.std.proofs.Common.{length, if◌then◌else◌, refl, ap, sym, subst, ◌∙◌, arith}
use Rattle.std.specs.List.{All, AllPairs, Contains, range_with_len}
use Rattle.std.proofs.lemmas.Bool.{cases_eq, true≢false}
use Rattle.std.proofs.lemmas.List.Elements.{All-nil, All-cons}
use Rattle.std.proofs.lemmas.List.FromFn.{get_or-range_with_len, length-range_with_len}
use Rattle.std.proofs.lemmas.List.Kept.{AllPairs-filter}
use Rattle.dist_clause.specs.Formula.{value_of}
use Rattle.dist_line_write.specs.Words.{true_variables}

pub record IsKept (p : ℕ → Bool) (a n v : ℕ) : Type 0 where
  pub low : a ≤ v
  pub high : v < a + n
  pub holds : p v ≡ true

pub all-kept : (p : ℕ → Bool) (a n : ℕ) → All (IsKept p a n) (filter p (range_with_len a n))
all-kept p a zero = All-nil (IsKept p a zero)
all-kept p a (suc n) = by (all-kept p (a + 1) n) (p a) refl
  where
    weaker : All (IsKept p (a + 1) n) (filter p (range_with_len (a + 1) n)) → All (IsKept p a (suc n)) (filter p
        (range_with_len (a + 1) n))
    weaker rest k d within = let kept = rest k d within in record {
      low = omega (arith, kept.low);
      high = omega
          (arith, kept.high);
      holds = kept.holds;
    }

    by : All (IsKept p (a + 1) n) (filter p (range_with_len (a + 1) n)) → (b : Bool) → p a ≡ b
        → All (IsKept p a (suc n)) (if b then a ∷ filter p (range_with_len (a + 1) n) else filter p (range_with_len
        (a + 1) n))
    by rest true is = All-cons (IsKept p a (suc n)) a (filter p (range_with_len (a + 1) n))
        (record { low = omega arith; high = omega arith; holds = is })
        (weaker rest)
    by rest false is = weaker rest

pub kept-there : (p : ℕ → Bool) (a n v : ℕ) → IsKept p a n v → Contains (filter p (range_with_len a n)) v
kept-there p a zero v kept = absurd (omega (arith, kept.low, kept.high))
kept-there p a (suc n) v kept = by (kept-there p (a + 1) n v) (p a) refl
  where
    by : (IsKept p (a + 1) n v → Contains (filter p (range_with_len (a + 1) n)) v) → (b : Bool) → p a ≡ b
        → Contains (if b then a ∷ filter p (range_with_len (a + 1) n) else filter p (range_with_len (a + 1) n)) v
    by rest true is = elim (cases_eq a v) [
      | inl same ↦ (0, omega arith, same)
      | inr other ↦
          let low : a + 1 ≤ v = omega (arith, kept.low) in
          let there = rest (record { low = low; high = omega (arith, kept.high); holds = kept.holds }) in
          (suc there.0, omega (arith, there.1), there.2)
    ]
    by rest false is = elim (cases_eq a v) [
      | inl same ↦ absurd (true≢false (sym kept.holds ∙ ap p (sym same) ∙ is))
      | inr other ↦ let low : a + 1 ≤ v = omega (arith, kept.low) in rest (record {
        low = low;
        high = omega (
          arith,
          kept.high,
        );
        holds = kept.holds;
      })
    ]

pub range-rises : (a n : ℕ) → AllPairs (λ v w. v < w) (range_with_len a n)
range-rises a n i j d before within =
    let short : j < n = omega (arith, within, length-range_with_len a n) in
    let early : i < n = omega arith in
    let first = get_or-range_with_len a n i d early in
    let second = get_or-range_with_len a n j d short in
    omega (arith, first, second)

pub true-rising : (values : List Bool) → AllPairs (λ v w. v < w) (true_variables values)
true-rising values = AllPairs-filter (λ v w. v < w) (λ v. value_of values v) (range_with_len 1 (length values))
    (range-rises 1 (length values))

pub true-low : (values : List Bool) → All (λ v. 1 ≤ v) (true_variables values)
true-low values k d within = (all-kept (λ v. value_of values v) 1 (length values) k d within).low

pub true-upto : (values : List Bool) → All (λ v. v ≤ length values) (true_variables values)
true-upto values k d within = let kept = all-kept (λ v. value_of values v) 1 (length values) k d within in omega
    (arith, kept.high)

pub contained : {X : Type 0} (P : X → Type 0) (xs : List X) (x : X) → All P xs → Contains xs x → P x
contained P xs x all there = subst P there.2 (all there.0 x there.1)

pub true-ones : (values : List Bool) (v : ℕ) → 1 ≤ v → v ≤ length values
    → Contains (true_variables values) v ↔ (value_of values v ≡ true)
true-ones values v from upto = (
  (λ there. (contained (IsKept (λ w. value_of values w) 1 (length values)) (true_variables values) v (all-kept
      (λ w. value_of values w) 1 (length values))
      there).holds),
  λ holds. kept-there (λ w. value_of values w) 1 (length values) v (record {
    low = from;
    high = omega (
      arith,
      upto,
    );
    holds = holds;
  }),
)
