-- Laws of the numbers from 1 on that pass a test. Proofs cite them, those of the crates above too.
use Rattle.std.proofs.Common.{◌≡◌, ℕ, zero, suc, ◌+◌, ◌-◌, ◌<◌, ◌≤◌, Bool, true, false, filter, if◌then◌else◌, List}
use Rattle.std.proofs.Common.{[], ◌∷◌, ◌++◌, ap, sym, ◌∙◌, arith, append-nil}
use Rattle.std.specs.List.{range_with_len}
use Rattle.std.proofs.lemmas.List.Elements.{filter-append}

range-more : (a n : ℕ) → range_with_len a (suc n) ≡ range_with_len a n ++ (a + n) ∷ []
range-more a zero = ap (λ (k : ℕ). k ∷ []) (omega arith)
range-more a (suc n) = ap (λ (ks : List ℕ). a ∷ ks) (range-more (a + 1) n ∙ ap (λ (k : ℕ). range_with_len (a + 1) n ++
    k ∷ []) (omega arith))

filter-one : (p : ℕ → Bool) (k : ℕ) (b : Bool) → p k ≡ b → filter p (k ∷ []) ≡ (if b then k ∷ [] else [])
filter-one p k b is = ap (λ (x : Bool). if x then k ∷ [] else []) is

pub filter-from : (p : ℕ → Bool) (a n k : ℕ) (b : Bool) → a + n ≡ k → p k ≡ b
    → filter p (range_with_len a (n + 1)) ≡ filter p (range_with_len a n) ++ (if b then k ∷ [] else [])
filter-from p a n k b last is =
    let next : n + 1 ≡ suc n = omega arith in
    ap (λ (m : ℕ). filter p (range_with_len a m)) next ∙ ap (filter p) (range-more a n) ∙ filter-append p
    (range_with_len a n) ((a + n) ∷ [])
    ∙ ap (λ (m : ℕ). filter p (range_with_len a n) ++ filter p (m ∷ [])) last ∙ ap (λ (ks : List ℕ). filter p
    (range_with_len a n) ++ ks) (filter-one p k b is)

pub filter-next : (p : ℕ → Bool) (n : ℕ) (b : Bool) → p (n + 1) ≡ b
    → filter p (range_with_len 1 (n + 1)) ≡ filter p (range_with_len 1 n) ++ (if b then (n + 1) ∷ [] else [])
filter-next p n b is = filter-from p 1 n (n + 1) b (omega arith) is

-- those of which none passes change nothing
filter-passed : (p : ℕ → Bool) (a d : ℕ) → ((w : ℕ) → a < w → w ≤ a + d → p w ≡ false)
    → filter p (range_with_len 1 (a + d)) ≡ filter p (range_with_len 1 a)
filter-passed p a zero none = ap (λ (n : ℕ). filter p (range_with_len 1 n)) (omega arith)
filter-passed p a (suc d) none =
    let next : a + suc d ≡ (a + d) + 1 = omega arith in
    ap (λ (n : ℕ). filter p (range_with_len 1 n)) next ∙ filter-next p (a + d) false (none ((a + d) + 1) (omega arith)
    (omega arith))
    ∙ append-nil (filter p (range_with_len 1 (a + d)))
    ∙ filter-passed p a d (λ w above within. none w above (omega (arith, within)))

pub filter-none : (p : ℕ → Bool) (a b : ℕ) → a ≤ b → ((w : ℕ) → a < w → w ≤ b → p w ≡ false)
    → filter p (range_with_len 1 b) ≡ filter p (range_with_len 1 a)
filter-none p a b least none =
    let same : a + (b - a) ≡ b = omega (arith, least) in
    ap (λ (n : ℕ). filter p (range_with_len 1 n)) (sym same) ∙ filter-passed p a (b - a) (λ w above within. none w
    above (omega (arith, within, least)))

pub filter-found : (p : ℕ → Bool) (a v : ℕ) → a < v → p v ≡ true → ((w : ℕ) → a < w → w < v → p w ≡ false)
    → filter p (range_with_len 1 v) ≡ filter p (range_with_len 1 a) ++ v ∷ []
filter-found p a v above holds none =
    let same : v ≡ (v - 1) + 1 = omega (arith, above) in
    ap (λ (n : ℕ). filter p (range_with_len 1 n)) same ∙ filter-next p (v - 1) true (ap p (sym same) ∙ holds)
    ∙ ap (λ (k : ℕ). filter p (range_with_len 1 (v - 1)) ++ k ∷ []) (sym same)
    ∙ ap (λ (ks : List ℕ). ks ++ v ∷ []) (filter-none p a (v - 1) (omega (arith, above)) (λ w more within. none w more
    (omega (arith, within, above))))
