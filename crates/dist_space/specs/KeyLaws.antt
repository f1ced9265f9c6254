-- Laws of the order of lists of numbers by their first difference. No public clause cites them; proofs do, those of the
-- crates above too.
use Rattle.std.proofs.Common.{◌≡◌, ◌⊎◌, ℕ, ◌<◌, List, [], ◌∷◌, ◌++◌, Ordering, Less, Equal, Greater, nat_cmp, refl, sym}
use Rattle.std.proofs.Common.{ap, subst, ◌∙◌, inl, inr, arith}
use Rattle.std.specs.Cmp.Lexicographic.{slice_cmp}
use Rattle.std.specs.Ordering.{MatchOrdering, ordering_then}
use Rattle.std.proofs.lemmas.Cmp.{nat_cmp_total, ranked, tied_itself}

abbrev pub IsLess : List ℕ → List ℕ → Type 0
IsLess [] [] = ⊥
IsLess [] (y ∷ ys) = Unit {0}
IsLess (x ∷ xs) [] = ⊥
IsLess (x ∷ xs) (y ∷ ys) = (x < y) ⊎ ((x ≡ y) × IsLess xs ys)

nat-less : (x y : ℕ) → x < y → nat_cmp x y ≡ Less
nat-less x y less = by (nat_cmp x y) (ranked x y (nat_cmp x y) refl)
  where
    by : (o : Ordering) → MatchOrdering o (x < y) (x ≡ y) (y < x) → o ≡ Less
    by Less h = refl
    by Equal h = absurd (omega (arith, less, h))
    by Greater h = absurd (omega (arith, less, h))

pub less-cmp : (a b : List ℕ) → IsLess a b → slice_cmp nat_cmp a b ≡ Less
less-cmp [] [] less = absurd less
less-cmp [] (y ∷ ys) less = refl
less-cmp (x ∷ xs) [] less = absurd less
less-cmp (x ∷ xs) (y ∷ ys) (inl less) = ap (λ (o : Ordering). ordering_then o (slice_cmp nat_cmp xs ys))
    (nat-less x y less)
less-cmp (x ∷ xs) (y ∷ ys) (inr less) =
    ap (λ (z : ℕ). ordering_then (nat_cmp z y) (slice_cmp nat_cmp xs ys)) less.0
    ∙ ap (λ (o : Ordering). ordering_then o (slice_cmp nat_cmp xs ys)) (tied_itself nat_cmp_total y)
    ∙ less-cmp xs ys less.1

pub cmp-less : (a b : List ℕ) → slice_cmp nat_cmp a b ≡ Less → IsLess a b
cmp-less [] [] is = absurd (let no-one : Equal ≡ Less = is in cc)
cmp-less [] (y ∷ ys) is = tt
cmp-less (x ∷ xs) [] is = absurd (let no-one : Greater ≡ Less = is in cc)
cmp-less (x ∷ xs) (y ∷ ys) is = by (nat_cmp x y) refl (cmp-less xs ys)
  where
    by : (o : Ordering) → nat_cmp x y ≡ o → (slice_cmp nat_cmp xs ys ≡ Less → IsLess xs ys) → IsLess (x ∷ xs) (y ∷ ys)
    by Less e rest = inl (subst (λ (r : Ordering). MatchOrdering r (x < y) (x ≡ y) (y < x)) e
        (ranked x y (nat_cmp x y) refl))
    by Equal e rest =
        let same : x ≡ y = subst (λ (r : Ordering). MatchOrdering r (x < y) (x ≡ y) (y < x)) e
        (ranked x y (nat_cmp x y) refl) in
        inr (same, rest (sym (ap (λ (r : Ordering). ordering_then r (slice_cmp nat_cmp xs ys)) e) ∙ is))
    by Greater e rest = absurd (let no-one : Greater
        ≡ Less = sym (ap (λ (r : Ordering). ordering_then r (slice_cmp nat_cmp xs ys)) e) ∙ is in cc)

-- the same start
pub same-start : (front a b : List ℕ) → IsLess a b → IsLess (front ++ a) (front ++ b)
same-start [] a b less = less
same-start (x ∷ front) a b less = inr (refl, same-start front a b less)
