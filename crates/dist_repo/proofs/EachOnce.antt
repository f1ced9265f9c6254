-- Lists whose elements stand once: how they compare with other lists of the same elements.
use Rattle.std.proofs.Common.{◌≡◌, ◌≢◌, ◌⊎◌, ℕ, zero, suc, ◌+◌, ◌-◌, ◌<◌, ◌≤◌, List, [], ◌∷◌, Ordering, Less, Greater, length, get_or, sum_by, refl, sym, ap}
use Rattle.std.proofs.Common.{◌∙◌, subst, arith, inl, inr}
use Rattle.std.specs.Prelude.{All, AllPairs, Contains}
use Rattle.std.specs.Cmp.{IsTotalOrder}
use Rattle.std.specs.List.{remove}
use Rattle.std.specs.Ordering.{ordering_reverse}
use Rattle.std.proofs.lemmas.Bool.{cases_lt}
use Rattle.std.proofs.lemmas.List.{get_or_default}
use Rattle.std.proofs.lemmas.List.Edits.{length-remove, get_or-remove_below, get_or-remove_above}
use Rattle.std.proofs.lemmas.List.Elements.{All-head, All-tail, All-contains}
use Rattle.std.proofs.lemmas.List.Sums.{sum_by-cons, sum_by-remove}
use Rattle.dist_repo.specs.Order.{package_cmp, IsInOrder}
use Rattle.dist_repo.specs.Size.{relations_of, relation_count}
use Rattle.dist_repo.specs.TotalLaws.{package_total}
use Rattle.dist_repo.specs.declared.package.Package.{Package}

-- ---- sums

module _ {X : Type 0} where
  contains-removed : (ys : List X) (p q : X) (n : ℕ) → n < length ys → get_or ys n p ≡ p → p ≢ q → Contains ys q → Contains (remove ys n) q
  contains-removed ys p q n within at_n apart there =
      let k = there.0 in
      let fits = there.1 in
      let long = length-remove ys n within in
      elim (cases_lt k n) [
        | inl below ↦ (k, omega (arith, long, below, within), get_or-remove_below ys n q k below within ∙ there.2)
        | inr not_below ↦ elim (cases_lt n k) [
          | inr not_above ↦
              let same : n ≡ k = omega (arith, not_below, not_above) in
              absurd (apart (sym at_n ∙ get_or_default ys n p q within ∙ ap (λ i. get_or ys i q) same ∙ there.2))
          | inl above ↦
              let next : k - 1 + 1 ≡ k = omega (arith, above) in (
                k - 1,
                omega (arith, fits, long, above),
                get_or-remove_above ys n q (k - 1) (omega (arith, above)) within ∙ ap (λ i. get_or ys i q) next
                    ∙ there.2,
              )
        ]
      ]

  -- Elements that differ and all stand in a list weigh together no more than it.
  pub sum-within : (f : X → ℕ) (ps ys : List X) → AllPairs (λ p q. p ≢ q) ps → All (Contains ys) ps → sum_by f ps ≤ sum_by f ys
  sum-within f [] ys apart there = omega arith
  sum-within f (p ∷ ps) ys apart there =
      let here = All-head (Contains ys) p ps there in
      let n = here.0 in
      let others : All (Contains (remove ys n)) ps = λ k d within.
      contains-removed ys p (get_or ps k d) n here.1 here.2 (apart 0 (suc k) d (omega arith) (omega (arith, within)))
      (All-tail (Contains ys) p ps there k d within) in
      let rest = sum-within f ps (remove ys n) (λ i j d before within. apart (suc i) (suc j) d (omega (arith, before)) (omega (arith, within))) others in
      omega (arith, rest, sum_by-cons f p ps, sum_by-remove f ys n p here.1, ap f here.2)

  count-is : (xs : List X) → sum_by (λ x. 1) xs ≡ length xs
  count-is [] = refl
  count-is (x ∷ xs) = omega (arith, sum_by-cons (λ (x : X). 1) x xs, count-is xs)

-- ---- orders

module _ {X : Type 0} (R : X → X → Ordering) (total : IsTotalOrder R) where
  abbrev IsBelow : X → X → Type 0
  IsBelow x y = R x y ≡ Less

  not_both : (x y : X) → IsBelow x y → ¬ IsBelow y x
  not_both x y below above =
      let turned : Less ≡ Greater = sym above ∙ total.antisymm y x ∙ ap ordering_reverse below in
      cc

  not_itself : (x y : X) → y ≡ x → ¬ IsBelow x y
  not_itself x y is below = not_both x y below (subst (λ (z : X). IsBelow z x) (sym is) (subst (λ (z : X). IsBelow x z) is below))

  ordered-tail : (x : X) (xs : List X) → AllPairs IsBelow (x ∷ xs) → AllPairs IsBelow xs
  ordered-tail x xs ordered i j d before within = ordered (suc i) (suc j) d (omega arith) (omega arith)

  head-below : (x : X) (xs : List X) (y : X) → AllPairs IsBelow (x ∷ xs) → Contains xs y → IsBelow x y
  head-below x xs y ordered there =
      subst (λ (z : X). IsBelow x z) there.2 (ordered 0 (suc there.0) y (omega arith) (omega (arith, there.1)))

  contains-head : (x : X) (xs : List X) → Contains (x ∷ xs) x
  contains-head x xs = (0, omega arith, refl)

  contains-later : (x : X) (xs : List X) (y : X) → Contains xs y → Contains (x ∷ xs) y
  contains-later x xs y there = (suc there.0, omega (arith, there.1), there.2)

  contains-at : (x : X) (xs : List X) (y : X) (k : ℕ) → k < length (x ∷ xs) → get_or (x ∷ xs) k y ≡ y → (x ≡ y) ⊎ Contains xs y
  contains-at x xs y zero within is = inl is
  contains-at x xs y (suc k) within is = inr (k, omega arith, is)

  contains-cases : (x : X) (xs : List X) (y : X) → Contains (x ∷ xs) y → (x ≡ y) ⊎ Contains xs y
  contains-cases x xs y there = contains-at x xs y there.0 there.1 there.2

  abbrev Within : List X → List X → Type 0
  Within a b = (y : X) → Contains a y → Contains b y

  same_head : (x y : X) (xs ys : List X) → AllPairs IsBelow (x ∷ xs) → AllPairs IsBelow (y ∷ ys) → Within (x ∷ xs) (y ∷ ys) → Within (y ∷ ys) (x ∷ xs) → x ≡ y
  same_head x y xs ys x_ordered y_ordered to from =
      elim (contains-cases y ys x (to x (contains-head x xs))) [
        | inl is ↦ sym is
        | inr later ↦ elim (contains-cases x xs y (from y (contains-head y ys))) [
          | inl is ↦ is
          | inr behind ↦ absurd (not_both y x (head-below y ys x y_ordered later) (head-below x xs y x_ordered behind))
        ]
      ]

  within-tail : (x y : X) (xs ys : List X) → x ≡ y → AllPairs IsBelow (x ∷ xs) → Within (x ∷ xs) (y ∷ ys) → Within xs ys
  within-tail x y xs ys same ordered to z there =
      elim (contains-cases y ys z (to z (contains-later x xs z there))) [
        | inl is ↦ absurd (not_itself x z (sym is ∙ sym same) (head-below x xs z ordered there))
        | inr later ↦ later
      ]

  -- Two lists in order that have the same elements are one.
  pub one_order : (xs ys : List X) → AllPairs IsBelow xs → AllPairs IsBelow ys → Within xs ys → Within ys xs → xs ≡ ys
  one_order [] [] x_ordered y_ordered to from = refl
  one_order [] (y ∷ ys) x_ordered y_ordered to from = absurd (omega (arith, (from y (contains-head y ys)).1))
  one_order (x ∷ xs) [] x_ordered y_ordered to from = absurd (omega (arith, (to x (contains-head x xs)).1))
  one_order (x ∷ xs) (y ∷ ys) x_ordered y_ordered to from =
      let same : x ≡ y = same_head x y xs ys x_ordered y_ordered to from in
      let rest : xs ≡ ys = one_order xs ys (ordered-tail x xs x_ordered) (ordered-tail y ys y_ordered)
      (within-tail x y xs ys same x_ordered to) (within-tail y x ys xs (sym same) y_ordered from) in
      cc

-- ---- packages

apart : (packages : List Package) → IsInOrder packages → AllPairs (λ p q. p ≢ q) packages
apart packages ordered i j d before within same = not_itself package_cmp package_total (get_or packages i d) (get_or packages j d) (sym same)
    (ordered i j d before within)

pub fewer-packages : (packages whole : List Package) → IsInOrder packages → All (Contains whole) packages → length packages ≤ length whole
fewer-packages packages whole ordered there =
    omega (arith, sum-within (λ (p : Package). 1) packages whole (apart packages ordered) there, count-is packages, count-is whole)

pub fewer-relations : (packages whole : List Package) → IsInOrder packages → All (Contains whole) packages → relation_count packages ≤ relation_count whole
fewer-relations packages whole ordered there = sum-within relations_of packages whole (apart packages ordered) there

pub one-list : (packages others : List Package) → IsInOrder packages → IsInOrder others → All (Contains others) packages → All (Contains packages) others
    → packages ≡ others
one-list packages others first second to from =
    one_order package_cmp package_total packages others first second (λ p there. All-contains (Contains others) packages p to there)
    (λ p there. All-contains (Contains packages) others p from there)
