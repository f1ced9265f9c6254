-- Members behind one, gone through from the least.
use Rattle.std.proofs.Common.{◌≡◌, ◌≢◌, ℕ, ◌<◌, ◌≤◌, Bool, List, length, Some, sym, arith, inl, inr, slice_get, ◌∙◌}
use Rattle.std.proofs.lemmas.Bool.{cases_lt}
use Rattle.dist_base.specs.ListLaws.{element-is, has-at, some-element, within-from}
use Rattle.dist_repo.specs.Order.{IsInOrder}
use Rattle.dist_repo.specs.PackageList.{PackageList}
use Rattle.dist_repo.specs.declared.package.Package.{Package}
use Rattle.dist_now.specs.RowsPrivate.{IsLater}
use Rattle.dist_now.proofs.LeastLemmas.{IsNoneTo}
use Rattle.dist_now.proofs.NameLemmas.{between-named}

-- no member behind one, where none so far is and the numbers have ended
pub none-later : (r : PackageList) (flags : List Bool) (first count : ℕ) (Q : Package → Type 0) → length r.packages ≤ count
    → IsNoneTo (IsLater r flags first Q) count → (n : ℕ) → ¬ IsLater r flags first Q n
none-later r flags first count Q past none n later = none n (omega (arith, past, within-from Q r.packages n later.1.has)) later

-- no member of one name behind a package of another
pub none-of-name : (r : PackageList) (flags : List Bool) (first count : ℕ) (p q : Package) → IsInOrder r.packages → first < count
    → slice_get r.packages first ≡ Some p → slice_get r.packages count ≡ Some q → q.name ≢ p.name
    → IsNoneTo (IsLater r flags first (λ z. p.name ≡ z.name)) count → (n : ℕ) → ¬ IsLater r flags first (λ z. p.name ≡ z.name) n
none-of-name r flags first count p q ordered behind is_p is_q other none n later =
    elim (cases_lt n count) [
      | inl h ↦ none n h later
      | inr h ↦
          let Named : Package → Type 0 = λ z. p.name ≡ z.name in
          let z = some-element Named r.packages n later.1.has in
          let is_z = element-is Named r.packages n later.1.has in
          let same : p.name ≡ z.name = has-at Named r.packages n z is_z later.1.has in
          other (between-named r.packages first count n p q z ordered behind h (within-from Named r.packages n later.1.has) is_p is_q is_z same ∙ sym same)
    ]
