-- In which class of a list a version is, and that versions of one class compare alike with every cut.
use Rattle.std.proofs.Common.{◌≡◌, ◌⊎◌, ℕ, zero, suc, List, [], ◌∷◌, Equal, refl, sym, ap, ◌∙◌, inl, inr, arith}
use Rattle.std.specs.Prelude.{Any}
use Rattle.dist_version.specs.Order.{version_cmp, IsBelow}
use Rattle.dist_classes.specs.ClassList.{classes_above, classes_of_all, IsOfClassAt, IsInOneClass}
use Rattle.dist_classes.specs.Cuts.{Rises, RisesFrom}
use Rattle.dist_classes.specs.VersionOrderLaws.{above-below, alike-left, alike-right, below-above, below-trans, cases-order, equal-back, less-not_equal}
use Rattle.dist_classes.specs.VersionOrderLaws.{not-above_below, not-both}

-- a version of a class above a top is above it
pub above-top : (top : List ℕ) (cuts : List (List ℕ)) → RisesFrom top cuts → (v : List ℕ) (number : ℕ) → IsOfClassAt (classes_above top cuts) number v
    → IsBelow top v
above-top top [] rising v zero here = here
above-top top [] rising v (suc number) here = absurd here
above-top top (cut ∷ cuts) rising v zero here = here.0
above-top top (cut ∷ cuts) rising v (suc zero) here = alike-right v cut top here ∙ rising.0
above-top top (cut ∷ cuts) rising v (suc (suc number)) here = below-trans top cut v rising.0 (above-top cut cuts rising.1 v number here)

-- ---- one class

one-above : (top cut : List ℕ) (cuts : List (List ℕ)) (v : List ℕ) → RisesFrom cut cuts → IsBelow cut v → IsInOneClass (classes_above cut cuts) v →
    IsInOneClass (classes_above top (cut ∷ cuts)) v
one-above top cut cuts v rising above one = record {
  number = suc (suc one.number);
  holds = one.holds;
  alone = alone;
}
  where
    alone : (other : ℕ) → IsOfClassAt (classes_above top (cut ∷ cuts)) other v → other ≡ suc (suc one.number)
    alone zero here = absurd (not-both cut v above here.1)
    alone (suc zero) here = absurd (less-not_equal cut v above (equal-back v cut here))
    alone (suc (suc other)) here = ap (λ n. suc (suc n)) (one.alone other here)

pub one-class_above : (top : List ℕ) (cuts : List (List ℕ)) → RisesFrom top cuts → (v : List ℕ) → IsBelow top v → IsInOneClass (classes_above top cuts) v
one-class_above top [] rising v above = record { number = 0; holds = above; alone = alone }
  where
    alone : (other : ℕ) → IsOfClassAt (classes_above top []) other v → other ≡ 0
    alone zero here = refl
    alone (suc other) here = absurd here
one-class_above top (cut ∷ cuts) rising v above = elim (cases-order (version_cmp v cut)) [
  | inl less ↦ record { number = 0; holds = (above, less); alone = alone_first less }
  | inr rest ↦ elim rest [
    | inl equal ↦ record { number = 1; holds = equal; alone = alone_point equal }
    | inr greater ↦ one-above top cut cuts v rising.1 (above-below cut v greater) (one-class_above cut cuts rising.1 v (above-below cut v greater))
  ]
]
  where
    alone_first : IsBelow v cut → (other : ℕ) → IsOfClassAt (classes_above top (cut ∷ cuts)) other v → other ≡ 0
    alone_first less zero here = refl
    alone_first less (suc zero) here = absurd (less-not_equal v cut less here)
    alone_first less (suc (suc other)) here = absurd (not-both v cut less (above-top cut cuts rising.1 v other here))

    alone_point : version_cmp v cut ≡ Equal → (other : ℕ) → IsOfClassAt (classes_above top (cut ∷ cuts)) other v → other ≡ 1
    alone_point equal zero here = absurd (less-not_equal v cut here.1 equal)
    alone_point equal (suc zero) here = refl
    alone_point equal (suc (suc other)) here = absurd (less-not_equal cut v (above-top cut cuts rising.1 v other here) (equal-back v cut equal))

pub one-class_of_all : (cuts : List (List ℕ)) → Rises cuts → (v : List ℕ) → IsInOneClass (classes_of_all cuts) v
one-class_of_all [] rising v = record { number = 0; holds = tt; alone = alone }
  where
    alone : (other : ℕ) → IsOfClassAt (classes_of_all []) other v → other ≡ 0
    alone zero here = refl
    alone (suc other) here = absurd here
one-class_of_all (cut ∷ cuts) rising v = elim (cases-order (version_cmp v cut)) [
  | inl less ↦ record { number = 0; holds = less; alone = alone_first less }
  | inr rest ↦ elim rest [
    | inl equal ↦ record { number = 1; holds = equal; alone = alone_point equal }
    | inr greater ↦ further (above-below cut v greater) (one-class_above cut cuts rising v (above-below cut v greater))
  ]
]
  where
    alone_first : IsBelow v cut → (other : ℕ) → IsOfClassAt (classes_of_all (cut ∷ cuts)) other v → other ≡ 0
    alone_first less zero here = refl
    alone_first less (suc zero) here = absurd (less-not_equal v cut less here)
    alone_first less (suc (suc other)) here = absurd (not-both v cut less (above-top cut cuts rising v other here))

    alone_point : version_cmp v cut ≡ Equal → (other : ℕ) → IsOfClassAt (classes_of_all (cut ∷ cuts)) other v → other ≡ 1
    alone_point equal zero here = absurd (less-not_equal v cut here equal)
    alone_point equal (suc zero) here = refl
    alone_point equal (suc (suc other)) here = absurd (less-not_equal cut v (above-top cut cuts rising v other here) (equal-back v cut equal))

    alone_further : IsBelow cut v → (one : IsInOneClass (classes_above cut cuts) v) → (other : ℕ) → IsOfClassAt (classes_of_all (cut ∷ cuts)) other v
        → other ≡ suc (suc one.number)
    alone_further above one zero here = absurd (not-both cut v above here)
    alone_further above one (suc zero) here = absurd (less-not_equal cut v above (equal-back v cut here))
    alone_further above one (suc (suc other)) here = ap (λ n. suc (suc n)) (one.alone other here)

    further : IsBelow cut v → IsInOneClass (classes_above cut cuts) v → IsInOneClass (classes_of_all (cut ∷ cuts)) v
    further above one = record { number = suc (suc one.number); holds = one.holds; alone = alone_further above one }

-- ---- versions of one class compare alike with a cut, and with all that isn't above the top

abbrev pub IsTold : List (List ℕ) → List ℕ → Type 0
IsTold cuts b = Any (λ cut. version_cmp b cut ≡ Equal) cuts

-- a version that is equal to a cut is equal to the first one or to a later one
told-cases : (cut : List ℕ) (cuts : List (List ℕ)) (b : List ℕ) → IsTold (cut ∷ cuts) b → (version_cmp b cut ≡ Equal) ⊎ IsTold cuts b
told-cases cut cuts b (zero, other, short, is, equal) = inl (ap (version_cmp b) is ∙ equal)
told-cases cut cuts b (suc k, other, short, is, equal) = inr (k, other, omega arith, is, equal)

-- a cut is above what the cuts rise from
told-above : (low : List ℕ) (cuts : List (List ℕ)) (b : List ℕ) → RisesFrom low cuts → IsTold cuts b → IsBelow low b
told-above low [] b rising told = absurd (omega (arith, told.2))
told-above low (cut ∷ cuts) b rising told = elim (told-cases cut cuts b told) [
  | inl equal ↦ alike-right b cut low equal ∙ rising.0
  | inr later ↦ below-trans low cut b rising.0 (told-above cut cuts b rising.1 later)
]

-- versions above a version that isn't below b are above b
both-above : (low b v w : List ℕ) → ¬ IsBelow low b → IsBelow low v → IsBelow low w → version_cmp v b ≡ version_cmp w b
both-above low b v w not_above first second =
    below-above b v (not-above_below low b v not_above first) ∙ sym (below-above b w (not-above_below low b w not_above second))

-- versions below a cut are below all that the cut or a later one is equal to
both-below : (cut : List ℕ) (cuts : List (List ℕ)) (b v w : List ℕ) → RisesFrom cut cuts → IsTold (cut ∷ cuts) b → IsBelow v cut → IsBelow w cut
    → version_cmp v b ≡ version_cmp w b
both-below cut cuts b v w rising told first second = elim (told-cases cut cuts b told) [
  | inl equal ↦ (alike-right b cut v equal ∙ first) ∙ sym (alike-right b cut w equal ∙ second)
  | inr later ↦
      let above = told-above cut cuts b rising later in
      below-trans v cut b first above ∙ sym (below-trans w cut b second above)
]

pub same-side : (top : List ℕ) (cuts : List (List ℕ)) → RisesFrom top cuts → (b v w : List ℕ) → (¬ IsBelow top b) ⊎ IsTold cuts b → (number : ℕ) →
    IsOfClassAt (classes_above top cuts) number v → IsOfClassAt (classes_above top cuts) number w → version_cmp v b ≡ version_cmp w b
same-side top cuts rising b v w (inl not_above) number first second =
    both-above top b v w not_above (above-top top cuts rising v number first) (above-top top cuts rising w number second)
same-side top [] rising b v w (inr told) number first second = absurd (omega (arith, told.2))
same-side top (cut ∷ cuts) rising b v w (inr told) zero first second = both-below cut cuts b v w rising.1 told first.1 second.1
same-side top (cut ∷ cuts) rising b v w (inr told) (suc zero) first second = alike-left v cut b first ∙ sym (alike-left w cut b second)
same-side top (cut ∷ cuts) rising b v w (inr told) (suc (suc number)) first second = elim (told-cases cut cuts b told) [
  | inl equal ↦ same-side cut cuts rising.1 b v w (inl (λ below. less-not_equal cut b below (equal-back b cut equal))) number first second
  | inr later ↦ same-side cut cuts rising.1 b v w (inr later) number first second
]

pub same-side_of_all : (cuts : List (List ℕ)) → Rises cuts → (b v w : List ℕ) → IsTold cuts b → (number : ℕ) →
    IsOfClassAt (classes_of_all cuts) number v → IsOfClassAt (classes_of_all cuts) number w → version_cmp v b ≡ version_cmp w b
same-side_of_all [] rising b v w told number first second = absurd (omega (arith, told.2))
same-side_of_all (cut ∷ cuts) rising b v w told zero first second = both-below cut cuts b v w rising told first second
same-side_of_all (cut ∷ cuts) rising b v w told (suc zero) first second = alike-left v cut b first ∙ sym (alike-left w cut b second)
same-side_of_all (cut ∷ cuts) rising b v w told (suc (suc number)) first second = elim (told-cases cut cuts b told) [
  | inl equal ↦ same-side cut cuts rising b v w (inl (λ below. less-not_equal cut b below (equal-back b cut equal))) number first second
  | inr later ↦ same-side cut cuts rising b v w (inr later) number first second
]
