-- The packages of one name, which stand together.
use Rattle.std.proofs.Common.{◌≡◌, ◌≢◌, ℕ, ◌+◌, ◌<◌, ◌≤◌, Bool, true, false, not, List, [], ◌∷◌, ◌++◌, length, refl, sym, ap, ◌∙◌, arith, inl, inr, Some}
use Rattle.std.proofs.Common.{slice_get}
use Rattle.std.specs.Prelude.{bytes_eq}
use Rattle.std.proofs.lemmas.Bool.{cases_lt, false≢true}
use Rattle.std.proofs.lemmas.Slice.Eq.{bytes_eq-Decides}
use Rattle.dist_base.specs.ListLaws.{at-has, element-is, has-at, some-element, within-from}
use Rattle.dist_repo.specs.Order.{IsInOrder}
use Rattle.dist_repo.specs.PackageList.{PackageList, IsPackageAnd}
use Rattle.dist_repo.specs.declared.package.Package.{Package}
use Rattle.dist_now.specs.GatheringPrivate.{Adds}
use Rattle.dist_now.proofs.AddsLemmas.{UpTo, AddsUpTo, adds-none, adds-one, adds-same}
use Rattle.dist_now.proofs.NameLemmas.{between-named}

-- the number itself, if its package stands behind the first one and has the name
abbrev pub IsVersionAt : (r : PackageList) (first : ℕ) (name : List ℕ) → ℕ → ℕ → Type 0
IsVersionAt r first name i x = (i ≡ x) × (first < x) × IsPackageAnd r.packages x (λ q. name ≡ q.name)

-- a later package of the name
abbrev pub IsVersion : (r : PackageList) (first : ℕ) (name : List ℕ) → ℕ → Type 0
IsVersion r first name k = (first < k) × IsPackageAnd r.packages k (λ q. name ≡ q.name)

pub versions-none : (r : PackageList) (first : ℕ) (name : List ℕ) (numbers : List ℕ) → AddsUpTo numbers numbers (IsVersionAt r first name) (first + 1)
versions-none r first name numbers = adds-none numbers (IsVersionAt r first name) (first + 1) (λ i x short at. omega (arith, at.0, at.1))

pub versions-more : (r : PackageList) (first second : ℕ) (name : List ℕ) (q : Package) (numbers : List ℕ) → first < second
    → slice_get r.packages second ≡ Some q → name ≡ q.name → Adds numbers (numbers ++ second ∷ []) (IsVersionAt r first name second)
versions-more r first second name q numbers behind is same =
    adds-one numbers second (IsVersionAt r first name second) (refl, behind, at-has (λ (z : Package). name ≡ z.name) r.packages second q is same) (λ x at. at.0)

versions-from : (r : PackageList) (first count : ℕ) (name : List ℕ) (old new : List ℕ) → ((k : ℕ) → IsVersion r first name k → k < count)
    → AddsUpTo old new (IsVersionAt r first name) count → Adds old new (IsVersion r first name)
versions-from r first count name old new below adds =
    adds-same old new (UpTo (IsVersionAt r first name) count) (IsVersion r first name) (λ k up. (up.2.1, up.2.2)) (λ k is. (k, below k is, (refl, is.0, is.1)))
    adds

pub versions-all : (r : PackageList) (first count : ℕ) (name : List ℕ) (old new : List ℕ) → length r.packages ≤ count
    → AddsUpTo old new (IsVersionAt r first name) count → Adds old new (IsVersion r first name)
versions-all r first count name old new past adds =
    versions-from r first count name old new (λ k is. omega (arith, past, within-from (λ (z : Package). name ≡ z.name) r.packages k is.1)) adds

pub versions-end : (r : PackageList) (first count : ℕ) (p q : Package) (old new : List ℕ) → IsInOrder r.packages → first < count
    → slice_get r.packages first ≡ Some p → slice_get r.packages count ≡ Some q → q.name ≢ p.name
    → AddsUpTo old new (IsVersionAt r first p.name) count → Adds old new (IsVersion r first p.name)
versions-end r first count p q old new ordered behind is_p is_q other adds =
    versions-from r first count p.name old new
    (λ k is. elim (cases_lt k count) [
      | inl less ↦ less
      | inr past ↦
          let Named : Package → Type 0 = λ z. p.name ≡ z.name in
          let z = some-element Named r.packages k is.1 in
          let is_z = element-is Named r.packages k is.1 in
          let same : p.name ≡ z.name = has-at Named r.packages k z is_z is.1 in
          absurd (other (between-named r.packages first count k p q z ordered behind past (within-from Named r.packages k is.1) is_p is_q is_z same ∙ sym same))
    ]) adds

-- names that a comparison of bytes doesn't tell apart
pub names-same : (a b : List ℕ) → false ≡ not (bytes_eq a b) → a ≡ b
names-same a b same = by (bytes_eq a b) refl
  where
    by : (answer : Bool) → bytes_eq a b ≡ answer → a ≡ b
    by true is = (bytes_eq-Decides a b).0 is
    by false is = absurd (false≢true (same ∙ ap not is))
