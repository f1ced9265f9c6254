-- What packages offer of a name: their own name in their own version, and their usable entries of Provides, by Debian
-- Policy 7.5.
use Rattle.std.specs.Prelude.{◌≡◌, ◌⊎◌, ◌↔◌, ℕ, List, Option, None, Some, Any, Contains, IfSome, IsSomeAnd, length}
use Rattle.std.specs.Prelude.{slice_get}
use Rattle.std.specs.List.Sorted.{IsSortedBy}
use Rattle.std.specs.Option.{option_and_then, option_cmp}
use Rattle.std.specs.Ordering.{is_lt}
use Rattle.dist_relation.specs.Satisfies.{Satisfies}
use Rattle.dist_relation.specs.declared.atom.Atom.{Atom}
use Rattle.dist_relation.specs.declared.atom.Bound.{Bound}
use Rattle.dist_relation.specs.declared.atom.Provide.{Provide}
use Rattle.dist_version.specs.Order.{version_cmp}
use Rattle.dist_repo.specs.Match.{Matches}
use Rattle.dist_repo.specs.PackageList.{PackageList, IsPackageAnd}
use Rattle.dist_repo.specs.Providers.{IsEntryOf}
use Rattle.dist_repo.specs.declared.offers.Offer.{Offer}
use Rattle.dist_repo.specs.declared.package.Package.{Package}

-- The packages of the offers are exactly those that the atom matches. One may stand there more than once.
abbrev pub AreMatched : PackageList → Atom → List Offer → Type 0
AreMatched r atom offers = (number : ℕ) → Any (λ offer. offer.number ≡ number) offers
    ↔ IsPackageAnd r.packages number (Matches r.architecture atom)

-- ---- how they are kept. No public clause cites what follows.

-- at a place of its Provides a package offers a name by a usable entry, and at their end by its own name
abbrev pub IsOfferAt : Option (List ℕ) → List ℕ → Package → ℕ → Type 0
IsOfferAt architecture name p place = ((place ≡ length p.provides) × (p.name ≡ name))
    ⊎ IsSomeAnd (slice_get p.provides place) (IsEntryOf architecture name)

-- an offer of a name
abbrev pub IsOffer : PackageList → List ℕ → Offer → Type 0
IsOffer r name offer = IsPackageAnd r.packages offer.number (λ p. IsOfferAt r.architecture name p offer.place)

-- one by the package's own name
abbrev pub IsOwnOffer : List Package → List ℕ → Offer → Type 0
IsOwnOffer packages name offer = IsPackageAnd packages offer.number
    (λ p. (offer.place ≡ length p.provides) × (p.name ≡ name))

-- and one by an entry
abbrev pub IsEntryOffer : Option (List ℕ) → List Package → List ℕ → Offer → Type 0
IsEntryOffer architecture packages name offer = IsPackageAnd packages offer.number
    (λ p. IsSomeAnd (slice_get p.provides offer.place) (IsEntryOf architecture name))

-- the version of an entry, or that of its package
abbrev pub version_in : Package → Option Provide → Option (List ℕ)
version_in p None = Some p.version
version_in p (Some entry) = entry.version

-- the version of an offer, if it has one
abbrev pub version_of : List Package → Offer → Option (List ℕ)
version_of packages offer = option_and_then (λ p. version_in p (slice_get p.provides offer.place))
    (slice_get packages offer.number)

-- they rise by their versions, those without one in front
abbrev pub AreInVersionOrder : List Package → List Offer → Type 0
AreInVersionOrder packages offers =
    IsSortedBy (λ a b. is_lt (option_cmp version_cmp (version_of packages a) (version_of packages b))) offers

-- the same offers in the order of their versions
pub record IsOrderOf (packages : List Package) (ordered offers : List Offer) : Type 0 where
  pub same : (offer : Offer) → Contains ordered offer ↔ Contains offers offer
  pub in_order : AreInVersionOrder packages ordered

-- all offers of a name, in the order of their versions
pub record AreOffers (r : PackageList) (name : List ℕ) (offers : List Offer) : Type 0 where
  pub exact : (offer : Offer) → Contains offers offer ↔ IsOffer r name offer
  pub in_order : AreInVersionOrder r.packages offers

-- a version that is offered, or none, meets a bound, if there is one
abbrev pub Meets : Option (List ℕ) → Option Bound → Type 0
Meets version bound = IfSome bound (λ bound. IsSomeAnd version (λ version. Satisfies version bound))
