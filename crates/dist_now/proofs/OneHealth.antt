-- A set of members has one health.
use Rattle.std.proofs.Common.{◌≡◌, ℕ, Bool, List, refl, ap, arith, inl, inr}
use Rattle.dist_base.specs.Least.{IsAtMost, IsLeast, IsLeastPair}
use Rattle.dist_repo.specs.PackageList.{PackageList}
use Rattle.dist_now.specs.Health.{AreTwoVersions, AreConflicting, IsUnmetAt, IsMissing, IsHealth}
use Rattle.dist_now.specs.declared.kinds.Health.{Health}
use Rattle.dist_now.specs.declared.kinds.Health.TheVariants.{Healthy, TwoVersions, Unmet, Conflict, EssentialMissing}
use Rattle.dist_now.proofs.HealthyLemmas.{no-two_versions, no-unmet, no-conflict, no-missing}

one-least : (P : ℕ → Type 0) (n k : ℕ) → IsLeast P n → IsLeast P k → k ≡ n
one-least P n k first second = let a = first.least k second.holds in let b = second.least n first.holds in omega arith

record AreSame (n k a b : ℕ) : Type 0 where
  first : a ≡ n
  second : b ≡ k

at-most-both : (n k a b : ℕ) → IsAtMost n k a b → IsAtMost a b n k → AreSame n k a b
at-most-both n k a b (inl low) (inl high) = absurd (omega arith)
at-most-both n k a b (inl low) (inr high) = absurd (omega (arith, high.0))
at-most-both n k a b (inr low) (inl high) = absurd (omega (arith, low.0))
at-most-both n k a b (inr low) (inr high) = record { first = high.0; second = omega (arith, low.1, high.1) }

one-pair : (P : ℕ → ℕ → Type 0) (n k a b : ℕ) → IsLeastPair P n k → IsLeastPair P a b → AreSame n k a b
one-pair P n k a b first second = at-most-both n k a b (first.least a b second.holds) (second.least n k first.holds)

pub one-health : (r : PackageList) (essential : Bool) (flags : List Bool) (health other : Health) → IsHealth r essential flags health
    → IsHealth r essential flags other → other ≡ health
one-health r essential flags Healthy Healthy is also = refl
one-health r essential flags Healthy (TwoVersions a b) is also = absurd (no-two_versions r flags essential is a b also.holds)
one-health r essential flags Healthy (Unmet a b) is also = absurd (no-unmet r flags essential is a b also.1.holds)
one-health r essential flags Healthy (Conflict a b) is also = absurd (no-conflict r flags essential is a b also.2.holds)
one-health r essential flags Healthy (EssentialMissing a) is also = absurd (no-missing r flags essential is also.3 a also.4.holds)
one-health r essential flags (TwoVersions n k) Healthy is also = absurd (no-two_versions r flags essential also n k is.holds)
one-health r essential flags (TwoVersions n k) (TwoVersions a b) is also =
    let same = one-pair (AreTwoVersions r flags) n k a b is also in let first = same.first in let second = same.second in cc
one-health r essential flags (TwoVersions n k) (Unmet a b) is also = absurd (also.0 n k is.holds)
one-health r essential flags (TwoVersions n k) (Conflict a b) is also = absurd (also.0 n k is.holds)
one-health r essential flags (TwoVersions n k) (EssentialMissing a) is also = absurd (also.0 n k is.holds)
one-health r essential flags (Unmet n k) Healthy is also = absurd (no-unmet r flags essential also n k is.1.holds)
one-health r essential flags (Unmet n k) (TwoVersions a b) is also = absurd (is.0 a b also.holds)
one-health r essential flags (Unmet n k) (Unmet a b) is also =
    let same = one-pair (IsUnmetAt r flags) n k a b is.1 also.1 in let first = same.first in let second = same.second in cc
one-health r essential flags (Unmet n k) (Conflict a b) is also = absurd (also.1 n k is.1.holds)
one-health r essential flags (Unmet n k) (EssentialMissing a) is also = absurd (also.1 n k is.1.holds)
one-health r essential flags (Conflict n k) Healthy is also = absurd (no-conflict r flags essential also n k is.2.holds)
one-health r essential flags (Conflict n k) (TwoVersions a b) is also = absurd (is.0 a b also.holds)
one-health r essential flags (Conflict n k) (Unmet a b) is also = absurd (is.1 a b also.1.holds)
one-health r essential flags (Conflict n k) (Conflict a b) is also =
    let same = one-pair (AreConflicting r flags) n k a b is.2 also.2 in let first = same.first in let second = same.second in cc
one-health r essential flags (Conflict n k) (EssentialMissing a) is also = absurd (also.2 n k is.2.holds)
one-health r essential flags (EssentialMissing n) Healthy is also = absurd (no-missing r flags essential also is.3 n is.4.holds)
one-health r essential flags (EssentialMissing n) (TwoVersions a b) is also = absurd (is.0 a b also.holds)
one-health r essential flags (EssentialMissing n) (Unmet a b) is also = absurd (is.1 a b also.1.holds)
one-health r essential flags (EssentialMissing n) (Conflict a b) is also = absurd (is.2 a b also.2.holds)
one-health r essential flags (EssentialMissing n) (EssentialMissing a) is also =
    let same = one-least (IsMissing r flags) n a is.4 also.4 in ap EssentialMissing same
