-- Which names of essential packages nothing that is installed has.
use Rattle.std.proofs.Common.{◌≡◌, ℕ, ◌+◌, ◌<◌, ◌≤◌, Bool, true, false, List, Some, length, refl, sym, ap, subst, ◌∙◌, inl, inr, arith, slice_get}
use Rattle.std.proofs.lemmas.Bool.{cases_lt, false≢true}
use Rattle.std.proofs.lemmas.Option.{slice_get_within}
use Rattle.dist_base.specs.Least.{IsLeast}
use Rattle.dist_base.specs.ListLaws.{at-has, has-at, here-at}
use Rattle.dist_repo.specs.Order.{IsFlat}
use Rattle.dist_repo.specs.PackageList.{IsPackageAnd}
use Rattle.dist_repo.specs.declared.package.Package.{Package}
use Rattle.dist_future.specs.FutureHealth.{Holds, IsMissing, SomeHolds}
use Rattle.dist_future.specs.MatchingPrivate.{IsInstalled}
use Rattle.dist_space.specs.Space.{SpaceView, member_classes}
use Rattle.dist_space_clauses.specs.SpaceClauses.{IsBearer}
use Rattle.dist_future.specs.SpaceLaws.{holds_under}
use Rattle.dist_space.specs.declared.meaning.Meaning.{Meaning}
use Rattle.dist_space.specs.declared.meaning.Meaning.TheVariants.{Now, Present, At, New, Kept, Fresh}
use Rattle.dist_space.specs.ClusterLaws.{names-apart}

module _ (s : SpaceView) (values : List Bool) where
  -- ---- one package

  -- the package is not installed, nor is a new version of a class so far
  pub record IsNoneOf (number class : ℕ) : Type 0 where
    pub present : ¬ Holds s values (Present number)
    pub new : (k : ℕ) → k < class → ¬ Holds s values (New number k)

  pub none-new : (number class : ℕ) → ¬ Holds s values (New number class) → IsNoneOf number class → IsNoneOf number (class + 1)
  none-new number class not none = record {
    present = none.present;
    new = λ k short holds. elim (cases_lt k class) [
      | inl less ↦ none.new k less holds
      | inr past ↦ let same : k ≡ class = omega (arith, short, past) in not (let At : ℕ → Type 0 = λ i. Holds s values (New number i) in subst At same holds)
    ];
  }

  none-of : (number class : ℕ) → length (member_classes s number) ≤ class → IsNoneOf number class → (m : Meaning) → Holds s values m → IsInstalled number m → ⊥
  none-of number class past none Now holds of = of
  none-of number class past none (At c k) holds of = of
  none-of number class past none (Kept q k j) holds of = of
  none-of number class past none (Fresh x k) holds of = of
  none-of number class past none (Present q) holds of = none.present (let Here : ℕ → Type 0 = λ i. Holds s values (Present i) in subst Here of holds)
  none-of number class past none (New q k) holds of =
      let own : Holds s values (New number k) = let Here : ℕ → Type 0 = λ i. Holds s values (New i k) in subst Here of holds in
      none.new k (let short = own.is_meaning.1 in omega (arith, past, short)) own

  pub none-borne : (number class : ℕ) → length (member_classes s number) ≤ class → IsNoneOf number class → ¬ SomeHolds s values (IsInstalled number)
  none-borne number class past none some = none-of number class past none some.meaning some.holds some.has

  pub not-held : (m : Meaning) → holds_under s values m ≡ false → ¬ Holds s values m
  not-held m fails holds = false≢true (sym fails ∙ holds.is_true)

  pub present-borne : (number : ℕ) → Holds s values (Present number) → SomeHolds s values (IsInstalled number)
  present-borne number holds = record { meaning = Present number; holds = holds; has = refl }

  pub new-borne : (number class : ℕ) → Holds s values (New number class) → SomeHolds s values (IsInstalled number)
  new-borne number class holds = record { meaning = New number class; holds = holds; has = refl }

  -- ---- its name

  module _ (flat : IsFlat s.repository.packages) (number : ℕ) (p : Package) (is : slice_get s.repository.packages number ≡ Some p) where
    named-number : (q : ℕ) → IsPackageAnd s.repository.packages q (λ (x : Package). x.name ≡ p.name) → q ≡ number
    named-number q here =
        let o = here-at (λ (x : Package). x.name ≡ p.name) s.repository.packages q here in
        names-apart s.repository.packages q number o.element p flat o.is is o.holds

    bearer-of : (m : Meaning) → IsBearer s p.name m → IsInstalled number m
    bearer-of Now bears = bears
    bearer-of (Present q) bears = named-number q bears
    bearer-of (At c k) bears = bears
    bearer-of (New q k) bears = named-number q bears
    bearer-of (Kept q k j) bears = bears
    bearer-of (Fresh x k) bears = bears

    own-name : (q : ℕ) → q ≡ number → IsPackageAnd s.repository.packages q (λ (x : Package). x.name ≡ p.name)
    own-name q same = at-has (λ (x : Package). x.name ≡ p.name) s.repository.packages q p (ap (slice_get s.repository.packages) same ∙ is) refl

    of-bearer : (m : Meaning) → IsInstalled number m → IsBearer s p.name m
    of-bearer Now of = of
    of-bearer (Present q) of = own-name q of
    of-bearer (At c k) of = of
    of-bearer (New q k) of = own-name q of
    of-bearer (Kept q k j) of = of
    of-bearer (Fresh x k) of = of

    pub missing-from : s.essential ≡ true → p.essential ≡ true → ¬ SomeHolds s values (IsInstalled number) → IsMissing s values number
    missing-from essential own none = (
      essential,
      at-has (λ (x : Package). (x.essential ≡ true) × (¬ SomeHolds s values (IsBearer s x.name))) s.repository.packages number p is
          (own, λ some. none (record { meaning = some.meaning; holds = some.holds; has = bearer-of some.meaning some.has })),
    )

    pub not-essential : p.essential ≡ false → ¬ IsMissing s values number
    not-essential not missing =
        false≢true (sym not ∙ (has-at (λ (x : Package). (x.essential ≡ true) × (¬ SomeHolds s values (IsBearer s x.name))) s.repository.packages number p is
        missing.1).0)

    pub not-missing : SomeHolds s values (IsInstalled number) → ¬ IsMissing s values number
    not-missing some missing =
        (has-at (λ (x : Package). (x.essential ≡ true) × (¬ SomeHolds s values (IsBearer s x.name))) s.repository.packages number p is missing.1).1
        (record { meaning = some.meaning; holds = some.holds; has = of-bearer some.meaning some.has })

  pub missing-least : (n : ℕ) → IsMissing s values n → ((k : ℕ) → k < n → ¬ IsMissing s values k) → IsLeast (IsMissing s values) n
  missing-least n holds none = record {
    holds = holds;
    least = λ k missing. elim (cases_lt k n) [
      | inl less ↦ absurd (none k less missing)
      | inr past ↦ past
    ];
  }

  pub missing-past : (count : ℕ) → length s.repository.packages ≤ count → ((n : ℕ) → n < count → ¬ IsMissing s values n) → (n : ℕ) → ¬ IsMissing s values n
  missing-past count past none n missing =
      let at = here-at (λ (x : Package). (x.essential ≡ true) × (¬ SomeHolds s values (IsBearer s x.name))) s.repository.packages n missing.1 in
      let inside = slice_get_within s.repository.packages n at.element at.is in
      none n (omega (arith, past, inside)) missing
