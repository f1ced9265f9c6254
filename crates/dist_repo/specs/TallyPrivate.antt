-- Who offers which name, while the packages are gone through.
use Rattle.std.specs.Prelude.{◌≡◌, ◌⊎◌, ◌↔◌, ℕ, List, [], Option, Any, Contains, unwrap_or}
use Rattle.std.specs.BTreeMap.{is_at}
use Rattle.std.specs.Cmp.Lexicographic.{slice_cmp}
use Rattle.std.specs.List.Sorted.{IsStrictlyIncreasing}
use Rattle.std.specs.Map.{lookup}
use Rattle.std.specs.Ordering.{nat_cmp}
use Rattle.dist_repo.specs.Offers.{AreInVersionOrder, IsEntryOffer, IsOwnOffer}
use Rattle.dist_repo.specs.declared.offers.Offer.{Offer}
use Rattle.dist_repo.specs.declared.package.Package.{Package}

-- the offers beside a name
abbrev pub offers_at : List (List ℕ × List Offer) → List ℕ → List Offer
offers_at tally name = unwrap_or (lookup (is_at (slice_cmp nat_cmp name)) tally) []

-- more offers of a package beside some names, each at its places
abbrev pub NotesEach : (old new : List (List ℕ × List Offer)) (P : List ℕ → ℕ → Type 0) (number : ℕ) → Type 0
NotesEach old new P number = (q : List ℕ) (offer : Offer) → Contains (offers_at new q) offer
    ↔ (Contains (offers_at old q) offer ⊎ (P q offer.place × (offer.number ≡ number)))

-- one offer more beside one name
abbrev pub Notes : (old new : List (List ℕ × List Offer)) (name : List ℕ) (number place : ℕ) → Type 0
Notes old new name number place = NotesEach old new (λ q k. (q ≡ name) × (k ≡ place)) number

-- beside each name are exactly the offers of it by entries
abbrev pub IsTallyOf : (architecture : Option (List ℕ)) (packages : List Package) (tally : List (List ℕ × List Offer))
    → Type 0
IsTallyOf architecture packages tally = (q : List ℕ) (offer : Offer) → Contains (offers_at tally q) offer
    ↔ IsEntryOffer architecture packages q offer

-- beside a name are its offers by entries: with those by the packages' own names, in the order of versions
pub record IsRowOf (packages : List Package) (row : List Offer) (entry : List ℕ × List Offer) : Type 0 where
  pub same : (offer : Offer) → Contains row offer ↔ (Contains entry.1 offer ⊎ IsOwnOffer packages entry.0 offer)
  pub in_order : AreInVersionOrder packages row

-- the numbers are those of the packages of some offers, rising
pub record AreNumbersOf (numbers : List ℕ) (offers : List Offer) : Type 0 where
  pub rising : IsStrictlyIncreasing numbers
  pub exact : (k : ℕ) → Contains numbers k ↔ Any (λ offer. offer.number ≡ k) offers
