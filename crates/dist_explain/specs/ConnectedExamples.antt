-- Worked examples of how relations hang together: the two that keep a out do, and what a depends on does not alone.
use Rattle.std.specs.Prelude.{◌≡◌, ◌≢◌, ℕ, zero, suc, [], ◌∷◌, Any, Some, None, codes, slice_get, refl}
use Rattle.std.proofs.Common.{arith, inl, inr, lit<, subst, sym}
use Rattle.dist_base.specs.ListLaws.{any-cases, any-head, any-later}
use Rattle.dist_repo.specs.declared.package.Package.{Package}
use Rattle.dist_now.specs.PresentClauses.{Apart, Demand, Item}
use Rattle.dist_now.specs.PresentExamples.{any_version, needing, never-itself, two}
use Rattle.dist_explain.specs.Examples.{relations}
use Rattle.dist_explain.specs.Explanation.{AreConnected, AsksFor, IsOfNumber, IsOn, IsRelation}

-- what a depends on asks for b, and for nothing else
dependency_asks_for_b : AsksFor two 1 (Item 0 0)
dependency_asks_for_b = (
  0,
  any_version (codes "b"),
  lit< tt,
  refl,
  record { usable = tt; matched = inl (record { name = refl; bound = tt }) },
)

asks-for-b : (n : ℕ) → AsksFor two n (Item 0 0) → n ≡ 1
asks-for-b zero asks = absurd (never-itself asks)
asks-for-b (suc zero) asks = refl
asks-for-b (suc (suc n)) asks = absurd asks

conflict_asks_for_nothing : (n : ℕ) → ¬ AsksFor two n (Apart 0 1)
conflict_asks_for_nothing n asks = asks

-- the first relation is the item, and the second the pair
first-is : (d : Demand) → IsRelation relations 1 d → Item 0 0 ≡ d
first-is d (zero, at, is) = cc
first-is d (suc k, at, is) = absurd (omega (arith, at))

second-is : (d : Demand) → IsRelation relations 2 d → Apart 0 1 ≡ d
second-is d (zero, at, is) = absurd (omega (arith, at))
second-is d (suc zero, at, is) = cc
second-is d (suc (suc k), at, is) = absurd (omega (arith, at))

-- The dependency asks for b, on which the conflict is; and the conflict is on b, for which the dependency asks.
both_hang_together : AreConnected two relations needing (1 ∷ 2 ∷ []) (1 ∷ 2 ∷ [])
both_hang_together = record { on_each = on_each; asks_for_each = asks }
  where
    IsOf : (Demand → Type 0) → ℕ → Type 0
    IsOf P number = IsOfNumber relations P number

    only-one : (P : Demand → Type 0) → ¬ Any (IsOf P) []
    only-one P any = omega (arith, any.2)

    on_each : (n : ℕ) → Any (IsOf (AsksFor two n)) (1 ∷ 2 ∷ []) → Any (IsOf (IsOn n)) (1 ∷ 2 ∷ [])
    on_each n any = elim (any-cases (IsOf (AsksFor two n)) 1 (2 ∷ []) any) [
      | inl first ↦
          let asks : AsksFor two n (Item 0 0) = subst (AsksFor two n) (sym (first-is first.0 first.1)) first.2 in
          any-later (IsOf (IsOn n)) 1 (2 ∷ [])
          (any-head (IsOf (IsOn n)) 2 [] (Apart 0 1, (1, refl, refl), inr (sym (asks-for-b n asks))))
      | inr later ↦ elim (any-cases (IsOf (AsksFor two n)) 2 [] later) [
        | inl second ↦ absurd (subst (AsksFor two n) (sym (second-is second.0 second.1)) second.2)
        | inr none ↦ absurd (only-one (AsksFor two n) none)
      ]
    ]

    asks : (n : ℕ) (q : Package) → slice_get two.packages n ≡ Some q → q ≢ needing → Any (IsOf (IsOn n)) (1 ∷ 2 ∷ [])
        → Any (IsOf (AsksFor two n)) (1 ∷ 2 ∷ [])
    asks zero q at other any = absurd (other (sym (let same : needing ≡ q = cc in same)))
    asks (suc zero) q at other any =
        any-head (IsOf (AsksFor two 1)) 1 (2 ∷ []) (Item 0 0, (0, refl, refl), dependency_asks_for_b)
    asks (suc (suc n)) q at other any = absurd (let gone : None ≡ Some q = at in cc)

-- Alone the dependency asks for a package on which nothing is.
dependency_hangs_alone : ¬ AreConnected two relations needing (1 ∷ []) (1 ∷ [])
dependency_hangs_alone connected =
    elim (any-cases (IsOfNumber relations (IsOn 1)) 1 [] (connected.on_each 1
    (any-head (IsOfNumber relations (AsksFor two 1)) 1 [] (Item 0 0, (0, refl, refl), dependency_asks_for_b)))) [
      | inl on ↦ not-on-b (subst (IsOn 1) (sym (first-is on.0 on.1)) on.2)
      | inr none ↦ omega (arith, none.2)
    ]
  where
    not-on-b : ¬ IsOn 1 (Item 0 0)
    not-on-b same = omega (arith, same)
