-- Numbers of packages, gathered from the providers of names.
use Rattle.std.proofs.Common.{◌≡◌, ◌↔◌, ℕ, ◌<◌, ◌≤◌, List, [], ◌∷◌, ◌++◌, length, get_or, refl, sym, ap, ◌∙◌, arith, inl, inr, Some, slice_get, subst}
use Rattle.std.specs.Prelude.{Contains}
use Rattle.std.specs.List.Sorted.{IsStrictlyIncreasing}
use Rattle.std.proofs.lemmas.Bool.{cases_lt}
use Rattle.std.proofs.lemmas.List.{get_or_default}
use Rattle.std.proofs.lemmas.List.Kept.{AllPairs-from_increasing}
use Rattle.std.proofs.lemmas.Option.{slice_get-get_or}
use Rattle.dist_base.specs.ListLaws.{any-at, at-has, at-more, element-is, has-at, some-element, within-from}
use Rattle.dist_asked.specs.AskedLaws.{IsByWidth}
use Rattle.dist_relation.specs.declared.atom.Atom.{Atom}
use Rattle.dist_repo.specs.Match.{Matches}
use Rattle.dist_repo.specs.PackageList.{PackageList, IsPackageAnd}
use Rattle.dist_repo.specs.Providers.{AreProviders, IsProvider}
use Rattle.dist_repo.specs.declared.package.Package.{Package}
use Rattle.dist_now.specs.GatheringPrivate.{Adds, IsMatchedAt}
use Rattle.dist_now.specs.PresentClauses.{AreNumbersOf, IsMetBy}
use Rattle.dist_now.specs.WithinLaws.{matches-within}
use Rattle.dist_now.proofs.AddsLemmas.{UpTo, AddsUpTo, adds-exact, adds-nothing, adds-one, adds-same}

pub contains-index : (xs : List ℕ) (k : ℕ) → k < length xs → Contains xs (get_or xs k 0)
contains-index xs k short = (k, short, get_or_default xs k (get_or xs k 0) 0 short)

pub provider-within : (r : PackageList) (name : List ℕ) (providers : List ℕ) (k : ℕ) → AreProviders r name providers → k < length providers
    → get_or providers k 0 < length r.packages
provider-within r name providers k are short =
    within-from (IsProvider r.architecture name) r.packages (get_or providers k 0) ((are.exact (get_or providers k 0)).0 (contains-index providers k short))

-- among numbers that rise, those before one that is below a bound are below it, and those behind one that is not are not
pub rises-below : (xs : List ℕ) (k m bound : ℕ) → IsStrictlyIncreasing xs → k ≤ m → m < length xs → get_or xs m 0 < bound → get_or xs k 0 < bound
rises-below xs k m bound rising up short below = elim (cases_lt k m) [
  | inl less ↦ let h = AllPairs-from_increasing xs rising k m 0 less short in omega arith
  | inr most ↦ let same : k ≡ m = omega arith in let h = ap (λ (i : ℕ). get_or xs i 0) same in omega arith
]

pub rises-from : (xs : List ℕ) (m k bound : ℕ) → IsStrictlyIncreasing xs → m ≤ k → k < length xs → bound ≤ get_or xs m 0 → bound ≤ get_or xs k 0
rises-from xs m k bound rising up short past = elim (cases_lt m k) [
  | inl less ↦ let h = AllPairs-from_increasing xs rising m k 0 less short in omega arith
  | inr most ↦ let same : m ≡ k = omega arith in let h = ap (λ (i : ℕ). get_or xs i 0) same in omega arith
]

pub provider-at : (r : PackageList) (name : List ℕ) (providers : List ℕ) (k : ℕ) → AreProviders r name providers → k < length providers
    → IsPackageAnd r.packages (get_or providers k 0) (IsProvider r.architecture name)
provider-at r name providers k are short = (are.exact (get_or providers k 0)).0 (contains-index providers k short)

-- the number at a place, if its package has a property
abbrev pub IsAtAnd : (r : PackageList) (providers : List ℕ) (P : Package → Type 0) → ℕ → ℕ → Type 0
IsAtAnd r providers P i x = (get_or providers i 0 ≡ x) × IsPackageAnd r.packages x P

pub adds-at : (r : PackageList) (providers : List ℕ) (P : Package → Type 0) (i : ℕ) (p : Package) (numbers : List ℕ)
    → slice_get r.packages (get_or providers i 0) ≡ Some p → P p
    → Adds numbers (numbers ++ get_or providers i 0 ∷ []) (IsAtAnd r providers P i)
adds-at r providers P i p numbers is holds =
    adds-one numbers (get_or providers i 0) (IsAtAnd r providers P i) (refl, at-has P r.packages (get_or providers i 0) p is holds) (λ x at. at.0)

pub adds-not : (r : PackageList) (providers : List ℕ) (P : Package → Type 0) (i : ℕ) (p : Package) (numbers : List ℕ)
    → slice_get r.packages (get_or providers i 0) ≡ Some p → ¬ P p
    → Adds numbers numbers (IsAtAnd r providers P i)
adds-not r providers P i p numbers is none =
    adds-nothing numbers (IsAtAnd r providers P i) (λ x at. none (has-at P r.packages x p (ap (λ (n : ℕ). slice_get r.packages n) (sym at.0) ∙ is) at.1))

pub adds-here : (r : PackageList) (providers : List ℕ) (P : Package → Type 0) (i : ℕ) (numbers : List ℕ)
    → IsPackageAnd r.packages (get_or providers i 0) P → Adds numbers (numbers ++ get_or providers i 0 ∷ []) (IsAtAnd r providers P i)
adds-here r providers P i numbers here =
    adds-one numbers (get_or providers i 0) (IsAtAnd r providers P i) (refl, here) (λ x at. at.0)

pub adds-never : (r : PackageList) (providers : List ℕ) (P : Package → Type 0) (i : ℕ) (numbers : List ℕ)
    → ¬ IsPackageAnd r.packages (get_or providers i 0) P → Adds numbers numbers (IsAtAnd r providers P i)
adds-never r providers P i numbers none =
    adds-nothing numbers (IsAtAnd r providers P i) (λ x at. none (subst (λ (k : ℕ). IsPackageAnd r.packages k P) (sym at.0) at.1))

-- all providers were gone through
pub adds-all : (r : PackageList) (name : List ℕ) (providers : List ℕ) (P : Package → Type 0) (count : ℕ) (old new : List ℕ) → length providers ≤ count
    → AreProviders r name providers
    → ((p : Package) → P p → IsProvider r.architecture name p) → AddsUpTo old new (IsAtAnd r providers P) count
    → Adds old new (λ k. IsPackageAnd r.packages k P)
adds-all r name providers P count old new past are provides adds =
    adds-same old new (UpTo (IsAtAnd r providers P) count) (λ k. IsPackageAnd r.packages k P) (λ k up. up.2.1)
    (λ k here.
    let there : Contains providers k = (are.exact k).1 (at-more P (IsProvider r.architecture name) provides r.packages k here) in
    (there.0, omega (arith, there.1, past), (get_or_default providers there.0 0 k there.1 ∙ there.2, here)))
    adds

-- ---- the packages that meet an item

pub matched-at : (r : PackageList) (item : List Atom) (i : ℕ) (atom : Atom) (old new : List ℕ) → slice_get item i ≡ Some atom
    → Adds old new (λ k. IsPackageAnd r.packages k (Matches r.architecture atom)) → Adds old new (IsMatchedAt r item i)
matched-at r item i atom old new is adds =
    adds-same old new (λ k. IsPackageAnd r.packages k (Matches r.architecture atom)) (IsMatchedAt r item i)
    (λ k here. at-has (λ (a : Atom). IsPackageAnd r.packages k (Matches r.architecture a)) item i atom is here)
    (λ k here. has-at (λ (a : Atom). IsPackageAnd r.packages k (Matches r.architecture a)) item i atom is here) adds

-- all alternatives were gone through
pub meeting-all : (r : PackageList) (item : List Atom) (count : ℕ) (old new : List ℕ) → length item ≤ count
    → AddsUpTo old new (IsMatchedAt r item) count → Adds old new (λ k. IsPackageAnd r.packages k (IsMetBy r.architecture item))
meeting-all r item count old new past adds =
    adds-same old new (UpTo (IsMatchedAt r item) count) (λ k. IsPackageAnd r.packages k (IsMetBy r.architecture item)) to from adds
  where
    to : (k : ℕ) → UpTo (IsMatchedAt r item) count k → IsPackageAnd r.packages k (IsMetBy r.architecture item)
    to k up =
        let Here : Atom → Type 0 = λ a. IsPackageAnd r.packages k (Matches r.architecture a) in
        let atom = some-element Here item up.0 up.2 in
        let is = element-is Here item up.0 up.2 in
        at-more (Matches r.architecture atom) (IsMetBy r.architecture item) (λ q matches. any-at (λ a. Matches r.architecture a q) item up.0 atom is matches)
        r.packages k (has-at Here item up.0 atom is up.2)

    from : (k : ℕ) → IsPackageAnd r.packages k (IsMetBy r.architecture item) → UpTo (IsMatchedAt r item) count k
    from k here =
        let By : Package → Type 0 = IsMetBy r.architecture item in
        let q = some-element By r.packages k here in
        let is_q = element-is By r.packages k here in
        let any : By q = has-at By r.packages k q is_q here in
        let atom : Atom = any.1 in
        let is : slice_get item any.0 ≡ Some atom = slice_get-get_or item any.0 atom any.2 ∙ ap (λ (a : Atom). Some a) any.3 in (
          any.0,
          omega (arith, any.2, past),
          at-has (λ (a : Atom). IsPackageAnd r.packages k (Matches r.architecture a)) item any.0 atom is
              (at-has (Matches r.architecture atom) r.packages k q is_q any.4),
        )

-- a wider atom matches no fewer packages
pub matched-wider : (r : PackageList) → IsByWidth (λ (atom : Atom) (k : ℕ). IsPackageAnd r.packages k (Matches r.architecture atom))
matched-wider r atom other k within here =
    at-more (Matches r.architecture atom) (Matches r.architecture other) (λ p matches. matches-within r.architecture atom other p within matches)
    r.packages k here

-- ---- the packages of a name

pub numbers-from : (r : PackageList) (P : Package → Type 0) (old new : List ℕ) → IsStrictlyIncreasing new → ((k : ℕ) → Contains new k ↔ Contains old k)
    → Adds [] old (λ k. IsPackageAnd r.packages k P) → AreNumbersOf r P new
numbers-from r P old new rising same adds = record {
  rising = rising;
  exact = λ k. (
    (λ there. (adds-exact old (λ n. IsPackageAnd r.packages n P) adds k).0 ((same k).0 there)),
    λ here. (same k).1 ((adds-exact old (λ n. IsPackageAnd r.packages n P) adds k).1 here),
  );
}
