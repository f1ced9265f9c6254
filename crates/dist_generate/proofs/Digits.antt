-- The bytes of decimal numbers.
use Rattle.std.proofs.Common.{◌≡◌, ℕ, zero, suc, ◌+◌, ◌%◌, ◌<◌, ◌^◌, Bool, true, List, [], ◌∷◌, ◌++◌, length, get_or, refl, ap, sym, ◌∙◌, arith}
use Rattle.std.specs.Prelude.{codes, decimal}
use Rattle.std.specs.List.{list_all}
use Rattle.std.proofs.lemmas.Bool.{and_parts, and_from}
use Rattle.std.proofs.lemmas.List.Folds.{list_all-append}
use Rattle.std.proofs.lemmas.Fmt.{decimal_by_steps}

-- bytes that pass, joined
pub all-append : (test : ℕ → Bool) (a b : List ℕ) → list_all test a ≡ true → list_all test b ≡ true → list_all test (a ++ b) ≡ true
all-append test a b h k = list_all-append test a b ∙ and_from (list_all test a) (list_all test b) h k

at-passes : (test : ℕ → Bool) (bytes : List ℕ) (k : ℕ) → list_all test bytes ≡ true → k < length bytes → test (get_or bytes k 0) ≡ true
at-passes test [] k all short = absurd (omega arith)
at-passes test (b ∷ bytes) zero all short = (and_parts (test b) (list_all test bytes) all).0
at-passes test (b ∷ bytes) (suc k) all short = at-passes test bytes k (and_parts (test b) (list_all test bytes) all).1 (omega arith)

digit-is : (d : ℕ) → d < 10 → get_or (codes "0123456789") d 0 ≡ 48 + d
digit-is zero h = refl
digit-is (suc zero) h = refl
digit-is (suc (suc zero)) h = refl
digit-is (suc (suc (suc zero))) h = refl
digit-is (suc (suc (suc (suc zero)))) h = refl
digit-is (suc (suc (suc (suc (suc zero))))) h = refl
digit-is (suc (suc (suc (suc (suc (suc zero)))))) h = refl
digit-is (suc (suc (suc (suc (suc (suc (suc zero))))))) h = refl
digit-is (suc (suc (suc (suc (suc (suc (suc (suc zero)))))))) h = refl
digit-is (suc (suc (suc (suc (suc (suc (suc (suc (suc zero))))))))) h = refl
digit-is (suc (suc (suc (suc (suc (suc (suc (suc (suc (suc d)))))))))) h = absurd (omega arith)

-- a test that each digit passes
module _ (test : ℕ → Bool) (all : list_all test (codes "0123456789") ≡ true) where
  pub digit-passes : (d : ℕ) → d < 10 → test (48 + d) ≡ true
  digit-passes d h = ap test (sym (digit-is d h)) ∙ at-passes test (codes "0123456789") d all h

  pub decimal-passes : (n : ℕ) → n < 2 ^ 64 → list_all test (decimal n) ≡ true
  decimal-passes n small =
      decimal_by_steps (λ (n : ℕ) (ds : List ℕ). list_all test ds ≡ true)
      (λ n h. and_from (test (48 + n)) true (digit-passes n h) refl)
      (λ n ds h before. all-append test ds ((48 + n % 10) ∷ []) before (and_from (test (48 + n % 10)) true (digit-passes (n % 10) (omega arith)) refl))
      n small
