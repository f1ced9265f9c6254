-- The numbers that a test picks, one after another.
use Rattle.std.proofs.Common.{◌≡◌, ℕ, zero, suc, ◌+◌, ◌<◌, Bool, true, false, cond, List, [], ◌∷◌, ◌++◌, append-nil, length, get_or, refl, sym, ap, ◌∙◌}
use Rattle.std.proofs.Common.{arith, slice_get}
use Rattle.std.specs.Prelude.{All, filter}
use Rattle.std.specs.List.{flat_map, range_with_len}
use Rattle.std.proofs.lemmas.List.Elements.{All-filter, filter-append}
use Rattle.std.proofs.lemmas.List.FromFn.{get_or-range_with_len, length-range_with_len}
use Rattle.std.specs.Option.{option_map_or}
use Rattle.dist_cert.specs.declared.records.Claim.{Claim}
use Rattle.dist_report.specs.ClaimParts.{packages_with}

range-last : (a n j : ℕ) → a + n ≡ j → range_with_len a (suc n) ≡ range_with_len a n ++ j ∷ []
range-last a zero j e = let same : a ≡ j = omega arith in ap (λ (k : ℕ). k ∷ []) same
range-last a (suc n) j e = ap (λ (l : List ℕ). a ∷ l) (range-last (a + 1) n j (omega arith))

pub range-more : (n : ℕ) → range_with_len 0 (n + 1) ≡ range_with_len 0 n ++ n ∷ []
range-more n = let next : n + 1 ≡ suc n = omega arith in ap (range_with_len 0) next ∙ range-last 0 n n (omega arith)

filter-at : (test : ℕ → Bool) (n : ℕ) (b : Bool) → test n ≡ b → filter test (n ∷ []) ≡ cond b (n ∷ []) []
filter-at test n b is = rw is refl

-- one more number that the test picks, and one more that it doesn't
pub picked-one : (test : ℕ → Bool) (n : ℕ) (so_far now : List ℕ) → test n ≡ true → so_far ≡ filter test (range_with_len 0 n) → now ≡ so_far ++ n ∷ []
    → now ≡ filter test (range_with_len 0 (n + 1))
picked-one test n so_far now is before more =
    more ∙ ap (λ (l : List ℕ). l ++ n ∷ []) before
    ∙ ap (λ (l : List ℕ). filter test (range_with_len 0 n) ++ l) (sym (filter-at test n true is))
    ∙ sym (filter-append test (range_with_len 0 n) (n ∷ [])) ∙ ap (filter test) (sym (range-more n))

pub picked-none : (test : ℕ → Bool) (n : ℕ) (so_far : List ℕ) → test n ≡ false → so_far ≡ filter test (range_with_len 0 n)
    → so_far ≡ filter test (range_with_len 0 (n + 1))
picked-none test n so_far is before =
    before ∙ sym (append-nil (filter test (range_with_len 0 n)))
    ∙ ap (λ (l : List ℕ). filter test (range_with_len 0 n) ++ l) (sym (filter-at test n false is))
    ∙ sym (filter-append test (range_with_len 0 n) (n ∷ [])) ∙ ap (filter test) (sym (range-more n))

below-all : (n : ℕ) → All (λ k. k < n) (range_with_len 0 n)
below-all n k d short =
    let within : k < n = omega (arith, length-range_with_len 0 n) in
    let is = get_or-range_with_len 0 n k d within in
    omega (arith, is)

-- what is picked is below the end
pub picked-within : (test : ℕ → Bool) (n : ℕ) → All (λ k. k < n) (filter test (range_with_len 0 n))
picked-within test n = All-filter test (λ k. k < n) (range_with_len 0 n) (below-all n)

head-is : (P : ℕ → Type 0) (x : ℕ) (xs : List ℕ) → All P (x ∷ xs) → P x
head-is P x xs all = all 0 x (omega arith)

tail-is : (P : ℕ → Type 0) (x : ℕ) (xs : List ℕ) → All P (x ∷ xs) → All P xs
tail-is P x xs all k d short = all (suc k) d (omega arith)

-- tests that agree on a list pick the same of it, and lines that agree on it are the same
filter-same : (p q : ℕ → Bool) (xs : List ℕ) → All (λ k. p k ≡ q k) xs → filter p xs ≡ filter q xs
filter-same p q [] all = refl
filter-same p q (x ∷ xs) all =
    let Agree : ℕ → Type 0 = λ k. p k ≡ q k in
    rw (head-is Agree x xs all, filter-same p q xs (tail-is Agree x xs all)) refl

pub picked-same : (p q : ℕ → Bool) (n : ℕ) → ((k : ℕ) → k < n → p k ≡ q k) → filter p (range_with_len 0 n) ≡ filter q (range_with_len 0 n)
picked-same p q n same = filter-same p q (range_with_len 0 n) (λ k d short. same (get_or (range_with_len 0 n) k d) (below-all n k d short))

lines-same : (f g : ℕ → List ℕ) (xs : List ℕ) → All (λ k. f k ≡ g k) xs → flat_map f xs ≡ flat_map g xs
lines-same f g [] all = refl
lines-same f g (x ∷ xs) all =
    let Agree : ℕ → Type 0 = λ k. f k ≡ g k in
    ap (λ (t : List ℕ). t ++ flat_map f xs) (head-is Agree x xs all) ∙ ap (λ (t : List ℕ). g x ++ t) (lines-same f g xs (tail-is Agree x xs all))

pub lines-same-within : (f g : ℕ → List ℕ) (n : ℕ) (xs : List ℕ) → ((k : ℕ) → k < n → f k ≡ g k) → All (λ k. k < n) xs → flat_map f xs ≡ flat_map g xs
lines-same-within f g n xs same within = lines-same f g xs (λ k d short. same (get_or xs k d) (within k d short))

-- packages that are told
pub claimed-within : (test : Claim → Bool) (made : List Claim) → All (λ k. k < length made) (packages_with test made)
claimed-within test made = picked-within (λ p. option_map_or test (slice_get made p) false) (length made)
