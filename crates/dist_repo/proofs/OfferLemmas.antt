-- What packages offer of a name, and who provides it.
use Rattle.std.proofs.Common.{◌≡◌, ◌↔◌, ◌⊎◌, ℕ, ◌<◌, ◌≤◌, List, [], length, take, Some, None, Option, refl, sym, ap, subst, ◌∙◌}
use Rattle.std.proofs.Common.{arith, eqb, inl, inr, nat_cmp, slice_get}
use Rattle.std.specs.Prelude.{Any, Contains, IsSomeAnd, map}
use Rattle.std.specs.List.{dedup}
use Rattle.std.specs.Option.{option_and_then}
use Rattle.std.proofs.lemmas.List.{get_or-map, length-map, take_all}
use Rattle.std.proofs.lemmas.List.Kept.{Contains-dedup_nat, Contains-from_dedup}
use Rattle.std.proofs.lemmas.Map.Keys.{IsStrictlyIncreasing-dedup}
use Rattle.std.proofs.lemmas.List.Sorted.{Contains-permutation, IsPermutation-sym}
use Rattle.std.proofs.lemmas.Option.{get_or_from_slice_get, slice_get_past, slice_get_within}
use Rattle.std.specs.List.Sorted.{IsPermutation, IsSorted, IsStrictlyIncreasing}
use Rattle.dist_base.specs.ListLaws.{any-at, any-contained, at-has, at-more, element-at, found-at, here-at}
use Rattle.dist_relation.specs.declared.atom.Atom.{Atom}
use Rattle.dist_relation.specs.declared.atom.Provide.{Provide}
use Rattle.dist_repo.specs.Match.{IsUsable, Matches, MatchesByEntry, MatchesByName}
use Rattle.dist_repo.specs.Offers.{version_in, version_of, AreInVersionOrder, AreMatched, AreOffers, IsEntryOffer, IsOffer, IsOfferAt, IsOrderOf}
use Rattle.dist_repo.specs.Offers.{IsOwnOffer, Meets}
use Rattle.dist_repo.specs.OwnPrivate.{AreNumbersNamed}
use Rattle.dist_repo.specs.PackageList.{PackageList, IsPackageAnd}
use Rattle.dist_repo.specs.Providers.{AreProviders, IsEntryOf, IsProvider}
use Rattle.dist_repo.specs.TallyPrivate.{AreNumbersOf}
use Rattle.dist_repo.specs.declared.offers.Offer.{Offer}
use Rattle.dist_repo.specs.declared.package.Package.{Package}

-- ---- who offers a name provides it

pub offer-provides : (architecture : Option (List ℕ)) (name : List ℕ) (p : Package) (place : ℕ) → IsOfferAt architecture name p place
    → IsProvider architecture name p
offer-provides architecture name p place (inl own) = inl own.1
offer-provides architecture name p place (inr entry) =
    let at = here-at (IsEntryOf architecture name) p.provides place entry in
    inr (any-at (IsEntryOf architecture name) p.provides place at.element at.is at.holds)

-- where a provider offers the name
record SomeOffer (architecture : Option (List ℕ)) (name : List ℕ) (p : Package) : Type 0 where
  place : ℕ
  is : IsOfferAt architecture name p place

provider-offers : (architecture : Option (List ℕ)) (name : List ℕ) (p : Package) → IsProvider architecture name p → SomeOffer architecture name p
provider-offers architecture name p (inl own) = record { place = length p.provides; is = inl (refl, own) }
provider-offers architecture name p (inr any) =
    let at = found-at (IsEntryOf architecture name) p.provides any in
    record { place = at.place; is = inr (at-has (IsEntryOf architecture name) p.provides at.place at.element at.is at.holds) }

-- among offers that are exactly those of a name
pub providers-iff : (r : PackageList) (name : List ℕ) (offers : List Offer) → ((offer : Offer) → Contains offers offer ↔ IsOffer r name offer)
    → (n : ℕ) → Any (λ offer. offer.number ≡ n) offers ↔ IsPackageAnd r.packages n (IsProvider r.architecture name)
providers-iff r name offers exact n = (
  (λ any.
      let offer : Offer = any.1 in
      let At : ℕ → Type 0 = λ m. IsPackageAnd r.packages m (λ p. IsOfferAt r.architecture name p offer.place) in
      at-more (λ p. IsOfferAt r.architecture name p offer.place) (IsProvider r.architecture name)
      (λ p is. offer-provides r.architecture name p offer.place is) r.packages n
      (subst At any.4 ((exact offer).0 (any.0, any.2, any.3)))),
  λ here.
      let at = here-at (IsProvider r.architecture name) r.packages n here in
      let some = provider-offers r.architecture name at.element at.holds in
      let offer : Offer = record { number = n; place = some.place } in
      any-contained (λ (o : Offer). o.number ≡ n) offers offer
      ((exact offer).1 (at-has (λ p. IsOfferAt r.architecture name p some.place) r.packages n at.element at.is some.is)) refl,
)

-- an offer is by an entry, or by the package's own name
pub either-offer : (r : PackageList) (name : List ℕ) (offer : Offer)
    → (IsEntryOffer r.architecture r.packages name offer ⊎ IsOwnOffer r.packages name offer) ↔ IsOffer r name offer
either-offer r name offer = (
  (λ either. elim either [
    | inl entry ↦ at-more Entry Both (λ p at. inr at) r.packages offer.number entry
    | inr own ↦ at-more Own Both (λ p at. inl at) r.packages offer.number own
  ]),
  λ is.
      let at = here-at Both r.packages offer.number is in
      elim at.holds [
        | inl own ↦ inr (at-has Own r.packages offer.number at.element at.is own)
        | inr entry ↦ inl (at-has Entry r.packages offer.number at.element at.is entry)
      ],
)
  where
    Entry : Package → Type 0
    Entry = λ p. IsSomeAnd (slice_get p.provides offer.place) (IsEntryOf r.architecture name)

    Own : Package → Type 0
    Own = λ p. (offer.place ≡ length p.provides) × (p.name ≡ name)

    Both : Package → Type 0
    Both = λ p. IsOfferAt r.architecture name p offer.place

-- a name that no entry has
module _ (r : PackageList) (name : List ℕ) (none : (offer : Offer) → ¬ IsEntryOffer r.architecture r.packages name offer) where
  pub offers-own : (offers : List Offer) → ((offer : Offer) → Contains offers offer ↔ IsOwnOffer r.packages name offer)
      → AreInVersionOrder r.packages offers → AreOffers r name offers
  offers-own offers exact in_order = record {
    exact = λ offer. (
      (λ there. (either-offer r name offer).0 (inr ((exact offer).0 there))),
      λ is. elim ((either-offer r name offer).1 is) [
        | inl entry ↦ absurd (none offer entry)
        | inr own ↦ (exact offer).1 own
      ],
    );
    in_order = in_order;
  }

  pub providers-own : (numbers : List ℕ) → AreNumbersNamed r.packages name numbers → AreProviders r name numbers
  providers-own numbers are = record {
    rising = are.rising;
    exact = λ k. (
      (λ there. at-more (λ (p : Package). p.name ≡ name) (IsProvider r.architecture name) (λ p same. inl same) r.packages k ((are.exact k).0 there)),
      λ here.
          let at = here-at (IsProvider r.architecture name) r.packages k here in
          elim at.holds [
            | inl same ↦ (are.exact k).1 (at-has (λ (p : Package). p.name ≡ name) r.packages k at.element at.is same)
            | inr any ↦
                let entry = found-at (IsEntryOf r.architecture name) at.element.provides any in
                let offer : Offer = record { number = k; place = entry.place } in
                absurd (none offer (at-has (λ (p : Package). IsSomeAnd (slice_get p.provides entry.place) (IsEntryOf r.architecture name)) r.packages k
                at.element at.is
                (at-has (IsEntryOf r.architecture name) at.element.provides entry.place entry.element entry.is entry.holds)))
          ],
    );
  }

-- ---- the packages of offers

abbrev number_of : Offer → ℕ
number_of = λ offer. offer.number

some-offer : Offer
some-offer = record { number = 0; place = 0 }

numbers-iff : (offers : List Offer) (n : ℕ) → Contains (map number_of offers) n ↔ Any (λ offer. offer.number ≡ n) offers
numbers-iff offers n = (
  (λ there.
      let counted = length-map offers number_of in
      let short : there.0 < length offers = let less = there.1 in omega (arith, less, counted) in
      let at = element-at offers there.0 short in
      any-at (λ (o : Offer). o.number ≡ n) offers there.0 at.element at.is
      (ap number_of (sym (get_or_from_slice_get offers there.0 at.element some-offer at.is)) ∙ sym (get_or-map number_of offers there.0 some-offer n short)
      ∙ there.2)),
  λ any.
      let at = found-at (λ (o : Offer). o.number ≡ n) offers any in
      let short = slice_get_within offers at.place at.element at.is in (
        at.place,
        omega (arith, short, length-map offers number_of),
        get_or-map number_of offers at.place some-offer n short ∙ ap number_of (get_or_from_slice_get offers at.place at.element some-offer at.is) ∙ at.holds,
      ),
)

pub numbers-from : (offers : List Offer) (count : ℕ) (numbers sorted once : List ℕ) → length offers ≤ count
    → numbers ≡ map number_of (take count offers) → IsPermutation numbers sorted → IsSorted nat_cmp sorted → once ≡ dedup eqb sorted
    → AreNumbersOf once offers
numbers-from offers count numbers sorted once past are permuted rising is =
    let all : numbers ≡ map number_of offers = are ∙ ap (λ (list : List Offer). map number_of list) (take_all count offers past) in
    let Rising : List ℕ → Type 0 = IsStrictlyIncreasing in
    record {
      rising = subst Rising (sym is) (IsStrictlyIncreasing-dedup sorted rising);
      exact = λ n.
          let In : List ℕ → Type 0 = λ list. Contains list n in (
            (λ there. (numbers-iff offers n).0 (subst In all
                (Contains-permutation sorted numbers n (IsPermutation-sym numbers sorted permuted) (Contains-from_dedup eqb sorted n (subst In is there))))),
            λ any. subst In (sym is) (Contains-dedup_nat sorted n
                (Contains-permutation numbers sorted n permuted (subst In (sym all) ((numbers-iff offers n).1 any)))),
          );
    }

-- ---- the offers that an atom matches

pub version-is : (packages : List Package) (offer : Offer) (p : Package) → slice_get packages offer.number ≡ Some p
    → version_of packages offer ≡ version_in p (slice_get p.provides offer.place)
version-is packages offer p is = ap (option_and_then (λ (x : Package). version_in x (slice_get x.provides offer.place))) is

module _ (architecture : Option (List ℕ)) (atom : Atom) (p : Package) (place : ℕ) where
  -- what the package offers at the place
  abbrev pub IsMatchedAt : Type 0
  IsMatchedAt = IsOfferAt architecture atom.name p place × Meets (version_in p (slice_get p.provides place)) atom.bound

  pub matched-at : IsUsable architecture atom.qualifier → IsMatchedAt → Matches architecture atom p
  matched-at usable both = record {
    usable = usable;
    matched = elim both.0 [
      | inl own ↦
          let Of : Option Provide → Type 0 = λ o. Meets (version_in p o) atom.bound in
          let past : slice_get p.provides place ≡ None = slice_get_past p.provides place (omega (arith, own.0)) in
          inl (record { name = own.1; bound = subst Of past both.1 })
      | inr entry ↦
          let Of : Option Provide → Type 0 = λ o. Meets (version_in p o) atom.bound in
          let at = here-at (IsEntryOf architecture atom.name) p.provides place entry in
          inr (any-at (MatchesByEntry architecture atom) p.provides place at.element at.is
          (record { usable = at.holds.0; name = at.holds.1; bound = subst Of at.is both.1 }))
    ];
  }

record SomePlace (architecture : Option (List ℕ)) (atom : Atom) (p : Package) : Type 0 where
  place : ℕ
  is : IsMatchedAt architecture atom p place

matched-place : (architecture : Option (List ℕ)) (atom : Atom) (p : Package) → (MatchesByName atom p ⊎ Any (MatchesByEntry architecture atom) p.provides)
    → SomePlace architecture atom p
matched-place architecture atom p (inl by_name) =
    let Of : Option Provide → Type 0 = λ o. Meets (version_in p o) atom.bound in
    let past : slice_get p.provides (length p.provides) ≡ None = slice_get_past p.provides (length p.provides) (omega arith) in
    record { place = length p.provides; is = (inl (refl, by_name.name), subst Of (sym past) by_name.bound) }
matched-place architecture atom p (inr any) =
    let Of : Option Provide → Type 0 = λ o. Meets (version_in p o) atom.bound in
    let at = found-at (MatchesByEntry architecture atom) p.provides any in
    record {
      place = at.place;
      is = (
        inr (at-has (IsEntryOf architecture atom.name) p.provides at.place at.element at.is (at.holds.usable, at.holds.name)),
        subst Of (sym at.is) at.holds.bound,
      );
    }

pub matched-from : (r : PackageList) (atom : Atom) (offers result : List Offer) → IsUsable r.architecture atom.qualifier → AreOffers r atom.name offers
    → ((offer : Offer) → Contains result offer ↔ (Contains offers offer × Meets (version_of r.packages offer) atom.bound)) → AreMatched r atom result
matched-from r atom offers result usable are iff n = (
  (λ any.
      let offer : Offer = any.1 in
      let both = (iff offer).0 (any.0, any.2, any.3) in
      let Of : Option (List ℕ) → Type 0 = λ v. Meets v atom.bound in
      let at = here-at (λ p. IsOfferAt r.architecture atom.name p offer.place) r.packages offer.number ((are.exact offer).0 both.0) in
      let meets = subst Of (version-is r.packages offer at.element at.is) both.1 in
      let At : ℕ → Type 0 = λ m. IsPackageAnd r.packages m (Matches r.architecture atom) in
      subst At any.4 (at-has (Matches r.architecture atom) r.packages offer.number at.element at.is
      (matched-at r.architecture atom at.element offer.place usable (at.holds, meets)))),
  λ here.
      let at = here-at (Matches r.architecture atom) r.packages n here in
      let some = matched-place r.architecture atom at.element at.holds.matched in
      let offer : Offer = record { number = n; place = some.place } in
      let Of : Option (List ℕ) → Type 0 = λ v. Meets v atom.bound in
      any-contained (λ (o : Offer). o.number ≡ n) result offer
      ((iff offer).1 (
        (are.exact offer).1 (at-has (λ p. IsOfferAt r.architecture atom.name p some.place) r.packages n at.element at.is some.is.0),
        subst Of (sym (version-is r.packages offer at.element at.is)) some.is.1,
      )) refl,
)

-- an atom that is not usable
pub matched-never : (r : PackageList) (atom : Atom) → ¬ IsUsable r.architecture atom.qualifier → AreMatched r atom []
matched-never r atom unusable n = (
  (λ any. absurd (omega (arith, any.2))),
  λ here. let at = here-at (Matches r.architecture atom) r.packages n here in absurd (unusable at.holds.usable),
)

-- ---- in the order of versions

pub order-from : (packages : List Package) (offers ordered : List Offer) → IsPermutation offers ordered → AreInVersionOrder packages ordered
    → IsOrderOf packages ordered offers
order-from packages offers ordered permuted in_order = record {
  same = λ offer. (
    (λ there. Contains-permutation ordered offers offer (IsPermutation-sym offers ordered permuted) there),
    λ there. Contains-permutation offers ordered offer permuted there,
  );
  in_order = in_order;
}
