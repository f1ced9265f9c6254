-- How a repository keeps who provides a name: a table of the names that entries of Provides have, in order, and beside
-- each name the numbers of its providers, and their offers in the order of versions. A name that only packages have is
-- not there: the packages of a name stand together.
use Rattle.std.specs.Prelude.{◌≡◌, ℕ, ◌<◌, ◌^◌, List, [], length, Contains, slice_index_or}
use Rattle.std.specs.Cmp.Lexicographic.{slice_cmp}
use Rattle.std.specs.List.Sorted.{IsStrictlySortedBy}
use Rattle.std.specs.Ordering.{nat_cmp}
use Rattle.dist_repo.specs.AskedPrivate.{AreAskedOfConflicts, AreAskedOfItems}
use Rattle.dist_repo.specs.Offers.{AreOffers, IsEntryOffer}
use Rattle.dist_repo.specs.Order.{IsInOrder}
use Rattle.dist_repo.specs.OwnPrivate.{AreCounted, AreOwn}
use Rattle.dist_repo.specs.PackageList.{PackageList}
use Rattle.dist_repo.specs.Providers.{AreProviders}
use Rattle.dist_repo.specs.declared.asked_lists.AskedList.{AskedList}
use Rattle.dist_repo.specs.declared.offers.Offer.{Offer}

-- The names rise, each has its providers beside it, and no entry has a name that is not there.
pub record IsIndex (repository : PackageList) (names numbers : List (List ℕ)) (offers : List (List Offer)) : Type 0
  where
    pub rising : IsStrictlySortedBy (slice_cmp nat_cmp) names
    pub aligned : length numbers ≡ length names
    pub offers_aligned : length offers ≡ length names
    pub each : (place : ℕ) → place < length names
        → AreProviders repository (slice_index_or names place []) (slice_index_or numbers place [])
    pub offered : (place : ℕ) → place < length names
        → AreOffers repository (slice_index_or names place []) (slice_index_or offers place [])
    pub others : (name : List ℕ) → ¬ Contains names name
        → (offer : Offer) → ¬ IsEntryOffer repository.architecture repository.packages name offer

-- The packages of a repository are in order, few enough, and have these offers of their own and this index of names;
-- and the places that are asked of their items and conflicts are enough.
pub record IsRepository (repository : PackageList) (own_numbers : List ℕ) (own_offers : List Offer)
    (names numbers : List (List ℕ)) (offers : List (List Offer)) (items conflicts : List AskedList) : Type 0 where
  pub in_order : IsInOrder repository.packages
  pub few : length repository.packages < 2 ^ 32
  pub counted : AreCounted (length repository.packages) own_numbers
  pub own : AreOwn repository.packages (length repository.packages) own_offers
  pub index : IsIndex repository names numbers offers
  pub asked_items : AreAskedOfItems repository.packages items
  pub asked_conflicts : AreAskedOfConflicts repository.packages conflicts
