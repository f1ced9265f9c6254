-- Laws of the order of versions, as it is used: what is below, above and equal. No public clause cites them; proofs do,
-- those of the crates above too.
use Rattle.std.proofs.Common.{◌≡◌, ◌⊎◌, ℕ, List, Ordering, Less, Equal, Greater, refl, sym, ap, ◌∙◌, inl, inr}
use Rattle.std.specs.Ordering.{ordering_reverse}
use Rattle.std.proofs.lemmas.Cmp.{alike_right, tied_back, tied_itself}
use Rattle.dist_version.specs.Order.{version_cmp, IsBelow}
use Rattle.dist_version.specs.OrderLaws.{version_total}

pub below-trans : (a b c : List ℕ) → IsBelow a b → IsBelow b c → IsBelow a c
below-trans a b c first second = version_total.trans a b c first second

pub below-above : (a b : List ℕ) → IsBelow a b → version_cmp b a ≡ Greater
below-above a b less = version_total.antisymm b a ∙ ap ordering_reverse less

pub above-below : (a b : List ℕ) → version_cmp b a ≡ Greater → IsBelow a b
above-below a b greater = version_total.antisymm a b ∙ ap ordering_reverse greater

pub equal-back : (a b : List ℕ) → version_cmp a b ≡ Equal → version_cmp b a ≡ Equal
equal-back a b is = tied_back version_total a b is

pub equal-itself : (a : List ℕ) → version_cmp a a ≡ Equal
equal-itself a = tied_itself version_total a

-- equal versions compare alike
pub alike-left : (a b c : List ℕ) → version_cmp a b ≡ Equal → version_cmp a c ≡ version_cmp b c
alike-left a b c is = version_total.congr a b c is

pub alike-right : (a b c : List ℕ) → version_cmp a b ≡ Equal → version_cmp c a ≡ version_cmp c b
alike-right a b c is = alike_right version_total a b c is

pub less-not_equal : (a b : List ℕ) → version_cmp a b ≡ Less → version_cmp a b ≡ Equal → ⊥
less-not_equal a b less equal = let no : Less ≡ Equal = sym less ∙ equal in cc

pub not-both : (a b : List ℕ) → IsBelow a b → IsBelow b a → ⊥
not-both a b first second = let no : Greater ≡ Less = sym (below-above a b first) ∙ second in cc

pub cases-order : (o : Ordering) → (o ≡ Less) ⊎ ((o ≡ Equal) ⊎ (o ≡ Greater))
cases-order Less = inl refl
cases-order Equal = inr (inl refl)
cases-order Greater = inr (inr refl)

-- what isn't above another version is below all that is above that
pub not-above_below : (low b v : List ℕ) → ¬ IsBelow low b → IsBelow low v → IsBelow b v
not-above_below low b v not_above above = elim (cases-order (version_cmp low b)) [
  | inl less ↦ absurd (not_above less)
  | inr rest ↦ elim rest [
    | inl equal ↦ sym (alike-left low b v equal) ∙ above
    | inr greater ↦ below-trans b low v (above-below b low greater) above
  ]
]
