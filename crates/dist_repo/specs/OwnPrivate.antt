-- What packages offer of their own names, in the order of packages.
use Rattle.std.specs.Prelude.{◌≡◌, ◌↔◌, ℕ, ◌<◌, List, Contains, length, slice_index_or, slice_get, Some}
use Rattle.std.specs.List.Sorted.{IsStrictlyIncreasing}
use Rattle.dist_repo.specs.PackageList.{IsPackageAnd}
use Rattle.dist_repo.specs.declared.offers.Offer.{Offer}
use Rattle.dist_repo.specs.declared.package.Package.{Package}

-- the numbers from 0 up to a count
pub record AreCounted (count : ℕ) (numbers : List ℕ) : Type 0 where
  pub counted : length numbers ≡ count
  pub each : (k : ℕ) → k < count → slice_index_or numbers k 0 ≡ k

-- the offer is that of the package of a number, at the end of its Provides
pub record IsOwnAt (packages : List Package) (k : ℕ) (offer : Offer) : Type 0 where
  pub number : offer.number ≡ k
  pub place : IsPackageAnd packages k (λ p. offer.place ≡ length p.provides)

-- so are the offers of the first packages
pub record AreOwn (packages : List Package) (count : ℕ) (offers : List Offer) : Type 0 where
  pub counted : length offers ≡ count
  pub each : (k : ℕ) (offer : Offer) → slice_get offers k ≡ Some offer → IsOwnAt packages k offer

-- the numbers of the packages of a name, rising
pub record AreNumbersNamed (packages : List Package) (name : List ℕ) (numbers : List ℕ) : Type 0 where
  pub rising : IsStrictlyIncreasing numbers
  pub exact : (k : ℕ) → Contains numbers k ↔ IsPackageAnd packages k (λ p. p.name ≡ name)
