-- The index of names: what stands beside a name.
use Rattle.std.proofs.Common.{◌≡◌, ℕ, List, [], get_or, Some, slice_get, refl, sym, subst}
use Rattle.std.specs.Prelude.{IsSomeAnd}
use Rattle.dist_repo.specs.Indexed.{IsIndex}
use Rattle.dist_repo.specs.Offers.{AreOffers}
use Rattle.dist_repo.specs.PackageList.{PackageList}
use Rattle.dist_repo.specs.Providers.{AreProviders}
use Rattle.dist_repo.specs.declared.offers.Offer.{Offer}
use Rattle.dist_repo.proofs.Search.{StandsAt, stands-at}

module _ (r : PackageList) (names numbers : List (List ℕ)) (offers : List (List Offer)) (place : ℕ) (name : List ℕ)
    (index : IsIndex r names numbers offers) (here : slice_get names place ≡ Some name) where
  named : StandsAt (λ (x : List ℕ). x ≡ name) names place []
  named =
      let Named : _ → Type 0 = λ o. IsSomeAnd o (λ (x : List ℕ). x ≡ name) in
      stands-at (λ (x : List ℕ). x ≡ name) names place [] (subst Named (sym here) refl)

  pub provided-at : (result : List ℕ) → result ≡ get_or numbers place [] → AreProviders r name result
  provided-at result is =
      let P : List ℕ → Type 0 = λ x. AreProviders r x (get_or numbers place []) in
      let Q : List ℕ → Type 0 = AreProviders r name in
      subst Q (sym is) (subst P named.holds (index.each place named.within))

  pub offered-at : (result : List Offer) → result ≡ get_or offers place [] → AreOffers r name result
  offered-at result is =
      let P : List ℕ → Type 0 = λ x. AreOffers r x (get_or offers place []) in
      let Q : List Offer → Type 0 = AreOffers r name in
      subst Q (sym is) (subst P named.holds (index.offered place named.within))
