-- Names in the order of their bytes are known by what they contain.
use Rattle.std.proofs.Common.{◌≡◌, ◌⊎◌, ℕ, zero, suc, List, [], ◌∷◌, Less, Greater, nat_cmp, refl, sym, ap, ◌∙◌, inl, inr, arith}
use Rattle.std.specs.Prelude.{Contains}
use Rattle.std.specs.Cmp.Lexicographic.{slice_cmp}
use Rattle.std.specs.List.Sorted.{IsStrictlySortedBy}
use Rattle.std.specs.Ordering.{ordering_reverse}
use Rattle.std.proofs.lemmas.Cmp.{nat_list_cmp_total}
use Rattle.std.proofs.lemmas.List.Elements.{All-contains}
use Rattle.std.proofs.lemmas.Map.Keys.{sorted_tail}
use Rattle.std.proofs.lemmas.Map.Views.{All-after_first}
use Rattle.dist_repo.specs.PackageList.{PackageList}
use Rattle.dist_classes.specs.NewNames.{AreNewNames}

abbrev IsFirst : List ℕ → List ℕ → Type 0
IsFirst x y = slice_cmp nat_cmp x y ≡ Less

abbrev AreInOrder : List (List ℕ) → Type 0
AreInOrder xs = IsStrictlySortedBy (slice_cmp nat_cmp) xs

not-both : (x y : List ℕ) → IsFirst x y → IsFirst y x → ⊥
not-both x y first second = let no : Greater ≡ Less = ap ordering_reverse (sym first) ∙ sym (nat_list_cmp_total.antisymm y x) ∙ second in cc

after-first : (x y : List ℕ) (xs : List (List ℕ)) → AreInOrder (x ∷ xs) → Contains xs y → IsFirst x y
after-first x y xs sorted there = All-contains (IsFirst x) xs y (All-after_first (slice_cmp nat_cmp) x xs sorted) there

cases : (x y : List ℕ) (xs : List (List ℕ)) → Contains (x ∷ xs) y → (x ≡ y) ⊎ Contains xs y
cases x y xs (zero, short, is) = inl is
cases x y xs (suc k, short, is) = inr (k, omega arith, is)

in-tail : (x y : List ℕ) (xs : List (List ℕ)) → Contains xs y → Contains (x ∷ xs) y
in-tail x y xs there = (suc there.0, omega (arith, there.1), there.2)

-- what one list has behind its first name, another one that begins alike has too
tail-into : (x y : List ℕ) (xs ys : List (List ℕ)) → x ≡ y → AreInOrder (x ∷ xs) → ((v : List ℕ) → Contains (x ∷ xs) v → Contains (y ∷ ys) v) → (v : List ℕ)
    → Contains xs v → Contains ys v
tail-into x y xs ys heads sorted into v there = elim (cases y v ys (into v (in-tail x v xs there))) [
  | inl h ↦ let first : IsFirst x v = after-first x v xs sorted there in absurd (itself v (ap (λ z. slice_cmp nat_cmp z v) (sym (heads ∙ h)) ∙ first))
  | inr h ↦ h
]
  where
    itself : (z : List ℕ) → IsFirst z z → ⊥
    itself z first = not-both z z first first

heads-same : (x y : List ℕ) (xs ys : List (List ℕ)) → AreInOrder (x ∷ xs) → AreInOrder (y ∷ ys) → (x ≡ y) ⊎ Contains xs y → (y ≡ x) ⊎ Contains ys x → x ≡ y
heads-same x y xs ys first second (inl h) other = h
heads-same x y xs ys first second (inr h) (inl g) = sym g
heads-same x y xs ys first second (inr h) (inr g) = absurd (not-both x y (after-first x y xs first h) (after-first y x ys second g))

pub same-names : (xs ys : List (List ℕ)) → AreInOrder xs → AreInOrder ys → ((v : List ℕ) → Contains xs v → Contains ys v)
    → ((v : List ℕ) → Contains ys v → Contains xs v) → xs ≡ ys
same-names [] [] first second into back = refl
same-names [] (y ∷ ys) first second into back = absurd (let there = back y (0, omega arith, refl) in omega (arith, there.1))
same-names (x ∷ xs) [] first second into back = absurd (let there = into x (0, omega arith, refl) in omega (arith, there.1))
same-names (x ∷ xs) (y ∷ ys) first second into back =
    let heads : x ≡ y = heads-same x y xs ys first second (cases x y xs (back y (0, omega arith, refl))) (cases y x ys (into x (0, omega arith, refl))) in
    let rest = same-names xs ys (sorted_tail (slice_cmp nat_cmp) x xs first) (sorted_tail (slice_cmp nat_cmp) y ys second)
    (tail-into x y xs ys heads first into) (tail-into y x ys xs (sym heads) second back) in
    ap (λ list. x ∷ list) rest ∙ ap (λ head. head ∷ ys) heads

pub one-new_names : (r : PackageList) (names others : List (List ℕ)) → AreNewNames r names → AreNewNames r others → names ≡ others
one-new_names r names others first second =
    same-names names others first.rising second.rising (λ v there. (second.exact v).1 ((first.exact v).0 there))
    (λ v there. (first.exact v).1 ((second.exact v).0 there))
