-- What bears the name of a package in a flat repository: the package as it is, and its new versions.
use Rattle.std.proofs.Common.{◌≡◌, ◌⊎◌, ℕ, ◌+◌, ◌<◌, ◌≤◌, List, Some, length, refl, sym, ap, subst, ◌∙◌, inl, inr, arith, slice_get}
use Rattle.std.proofs.lemmas.Bool.{cases_lt}
use Rattle.dist_base.specs.ListLaws.{at-has, here-at}
use Rattle.dist_repo.specs.PackageList.{IsPackageAnd}
use Rattle.dist_repo.specs.declared.package.Package.{Package}
use Rattle.dist_space.specs.Space.{IsMeaning, IsSpace, SpaceView, member_classes}
use Rattle.dist_space_clauses.specs.SpaceClauses.{IsBearer}
use Rattle.dist_space.specs.declared.meaning.Meaning.{Meaning}
use Rattle.dist_space.specs.declared.meaning.Meaning.TheVariants.{Now, Present, At, New, Kept, Fresh}
use Rattle.dist_space_clauses.proofs.Gathered.{UpTo}
use Rattle.dist_space.specs.ClusterLaws.{names-apart}

abbrev Named : List ℕ → Package → Type 0
Named name p = p.name ≡ name

module _ (s : SpaceView) (n : ℕ) where
  pub bearer-present : (p : Package) (m : Meaning) → slice_get s.repository.packages n ≡ Some p → m ≡ Present n → IsBearer s p.name m
  bearer-present p m is same = subst (IsBearer s p.name) (sym same) (at-has (Named p.name) s.repository.packages n p is refl)

  pub bearer-new : (p : Package) (k : ℕ) (m : Meaning) → slice_get s.repository.packages n ≡ Some p → m ≡ New n k → IsBearer s p.name m
  bearer-new p k m is same = subst (IsBearer s p.name) (sym same) (at-has (Named p.name) s.repository.packages n p is refl)

  pub bearer-more : (class : ℕ) (m : Meaning) → (m ≡ Present n) ⊎ UpTo s (λ k x. x ≡ New n k) (class + 1) m
      → ((m ≡ Present n) ⊎ UpTo s (λ k x. x ≡ New n k) class m) ⊎ (m ≡ New n class)
  bearer-more class m (inl same) = inl (inl same)
  bearer-more class m (inr up) = elim (cases_lt up.0 class) [
    | inl less ↦ inl (inr (up.0, less, up.2))
    | inr most ↦ let same : up.0 ≡ class = omega (arith, up.1, most) in inr (up.2 ∙ ap (λ (k : ℕ). New n k) same)
  ]

  -- the only package of the name
  one-number : IsSpace s → (p : Package) (r : ℕ) → slice_get s.repository.packages n ≡ Some p → IsPackageAnd s.repository.packages r (Named p.name) → r ≡ n
  one-number space p r is there =
      let here = here-at (Named p.name) s.repository.packages r there in
      names-apart s.repository.packages r n here.element p space.frame.flat here.is is here.holds

pub bearer-cases : (s : SpaceView) → IsSpace s → (n : ℕ) (p : Package) (count : ℕ) (m : Meaning) → slice_get s.repository.packages n ≡ Some p
    → length (member_classes s n) ≤ count → IsMeaning s m → IsBearer s p.name m
    → (m ≡ Present n) ⊎ UpTo s (λ k x. x ≡ New n k) count m
bearer-cases s space n p count Now is past meaning bearer = absurd bearer
bearer-cases s space n p count (Present r) is past meaning bearer = inl (ap (λ (i : ℕ). Present i) (one-number s n space p r is bearer))
bearer-cases s space n p count (At c k) is past meaning bearer = absurd bearer
bearer-cases s space n p count (New r k) is past meaning bearer =
    let same = one-number s n space p r is bearer in
    let short : k < length (member_classes s n) = subst (λ (i : ℕ). k < length (member_classes s i)) same meaning.1 in
    inr (k, omega (arith, short, past), ap (λ (i : ℕ). New i k) same)
bearer-cases s space n p count (Kept r k j) is past meaning bearer = absurd bearer
bearer-cases s space n p count (Fresh x k) is past meaning bearer = absurd bearer
