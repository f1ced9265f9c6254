-- What packages offer of their own names.
use Rattle.std.proofs.Common.{◌≡◌, ◌↔◌, ℕ, ◌+◌, ◌-◌, ◌<◌, ◌≤◌, false, List, [], ◌∷◌, ◌++◌, length, get_or, Some, None, Option, Ordering, Less, Equal}
use Rattle.std.proofs.Common.{is_lt, nat_cmp, refl, sym, ap, subst, ◌∙◌, arith, inl, inr, slice_get}
use Rattle.std.specs.Prelude.{Contains}
use Rattle.std.specs.Cmp.Lexicographic.{slice_cmp}
use Rattle.std.specs.List.{between}
use Rattle.std.specs.Option.{option_cmp}
use Rattle.std.specs.Ordering.{ordering_reverse, ordering_then}
use Rattle.std.proofs.lemmas.Bool.{cases_lt}
use Rattle.std.proofs.lemmas.Cmp.{nat_list_cmp_total, tied_itself}
use Rattle.std.proofs.lemmas.List.{get_or_append_left, get_or_default, get_or_push, length-append}
use Rattle.std.proofs.lemmas.List.Edits.{get_or-between, length-between}
use Rattle.std.proofs.lemmas.Option.{get_or_from_slice_get, slice_get-get_or, slice_get_past, slice_get_within}
use Rattle.dist_base.specs.ListLaws.{at-has, element-at, has-at, here-at}
use Rattle.dist_version.specs.Order.{version_cmp}
use Rattle.dist_version.specs.OrderLaws.{version_total}
use Rattle.dist_repo.specs.Offers.{version_in, version_of, AreInVersionOrder, IsOwnOffer}
use Rattle.dist_repo.specs.Order.{IsInOrder}
use Rattle.dist_repo.specs.OwnPrivate.{AreCounted, AreNumbersNamed, AreOwn, IsOwnAt}
use Rattle.dist_repo.specs.PackageList.{IsPackageAnd}
use Rattle.dist_repo.specs.SpansPrivate.{IsSpan}
use Rattle.dist_repo.specs.declared.offers.Offer.{Offer}
use Rattle.dist_repo.specs.declared.package.Package.{Package}
use Rattle.dist_repo.proofs.EdgeLemmas.{stands-between}
use Rattle.dist_repo.proofs.OfferLemmas.{version-is}
use Rattle.dist_repo.proofs.SpanLemmas.{package-less}

-- ---- one package more

pub counted-none : AreCounted 0 []
counted-none = record { counted = refl; each = λ k less. absurd (omega (arith, less)) }

pub counted-more : (count : ℕ) (numbers : List ℕ) → AreCounted count numbers → AreCounted (count + 1) (numbers ++ count ∷ [])
counted-more count numbers before = record {
  counted = length-append numbers (count ∷ []) ∙ ap (λ (n : ℕ). n + 1) before.counted;
  each = λ k less. elim (cases_lt k count) [
    | inl earlier ↦ get_or_append_left numbers (count ∷ []) 0 k (omega (arith, earlier, before.counted)) ∙ before.each k earlier
    | inr most ↦ let here : k ≡ count = omega (arith, less, most) in
        get_or_push numbers count 0 k (before.counted ∙ sym here) ∙ sym here
  ];
}

pub own-none : (packages : List Package) → AreOwn packages 0 []
own-none packages = record { counted = refl; each = λ k offer is. absurd (omega (arith, slice_get_within [] k offer is)) }

pub own-more : (packages : List Package) (count : ℕ) (offers : List Offer) (p : Package) (made : Offer) → AreOwn packages count offers
    → slice_get packages count ≡ Some p → made.number ≡ count → made.place ≡ length p.provides → AreOwn packages (count + 1) (offers ++ made ∷ [])
own-more packages count offers p made before is_p number place = record {
  counted = length-append offers (made ∷ []) ∙ ap (λ (n : ℕ). n + 1) before.counted;
  each = λ k offer is.
      let all = length-append offers (made ∷ []) in
      let within = slice_get_within (offers ++ made ∷ []) k offer is in
      let there : get_or (offers ++ made ∷ []) k offer ≡ offer = get_or_from_slice_get (offers ++ made ∷ []) k offer offer is in
      elim (cases_lt k count) [
        | inl earlier ↦
            let short : k < length offers = omega (arith, earlier, before.counted) in
            before.each k offer (slice_get-get_or offers k offer short
            ∙ ap (λ (o : Offer). Some o) (sym (get_or_append_left offers (made ∷ []) offer k short) ∙ there))
        | inr most ↦
            let here : k ≡ count = omega (arith, within, all, most, before.counted) in
            let same : made ≡ offer = sym (get_or_push offers made offer k (before.counted ∙ sym here)) ∙ there in
            let At : Offer → Type 0 = IsOwnAt packages k in
            subst At same (record {
              number = number ∙ sym here;
              place = at-has (λ (x : Package). made.place ≡ length x.provides) packages k p (ap (slice_get packages) here ∙ is_p) place;
            })
      ];
}

-- ---- the packages of a name

module _ (packages : List Package) (name : List ℕ) (start end : ℕ) (span : IsSpan packages name start end) where
  named-at : (k : ℕ) → (start ≤ k) × (k < end) → IsPackageAnd packages k (λ p. p.name ≡ name)
  named-at k both =
      let at = element-at packages k (omega (arith, both.1, span.within)) in
      at-has (λ (p : Package). p.name ≡ name) packages k at.element at.is ((span.exact k at.element at.is).1 both)

  named-place : (k : ℕ) → IsPackageAnd packages k (λ p. p.name ≡ name) → (start ≤ k) × (k < end)
  named-place k here =
      let at = here-at (λ (p : Package). p.name ≡ name) packages k here in
      (span.exact k at.element at.is).0 at.holds

  pub numbers-between : (numbers : List ℕ) → AreCounted (length packages) numbers → AreNumbersNamed packages name (between start end numbers)
  numbers-between numbers counted =
      let short : end ≤ length numbers = omega (arith, span.within, counted.counted) in
      let all : length (between start end numbers) ≡ end - start = length-between numbers start end short in
      let at : (k : ℕ) → k < end - start → get_or (between start end numbers) k 0 ≡ start + k = λ k less.
      get_or-between numbers start end k 0 (omega (arith, less)) ∙ counted.each (start + k) (omega (arith, less, span.within)) in
      record {
        rising = λ k less. omega (arith, at k (omega (arith, less, all)), at (k + 1) (omega (arith, less, all)));
        exact = λ k. (
          (λ there.
              let i = there.0 in
              let less : i < end - start = omega (arith, there.1, all) in
              let is : get_or (between start end numbers) i 0 ≡ k = get_or_default (between start end numbers) i 0 k there.1 ∙ there.2 in
              named-at k (omega (arith, at i less, is), omega (arith, at i less, is, less))),
          λ here.
              let both = named-place k here in
              let less : k - start < end - start = omega (arith, both.0, both.1) in
              let inside : k - start < length (between start end numbers) = omega (arith, less, all) in (
                k - start,
                inside,
                get_or_default (between start end numbers) (k - start) k 0 inside ∙ omega (arith, at (k - start) less, both.0),
              ),
        );
      }

  pub offers-between : (offers : List Offer) → AreOwn packages (length packages) offers → (offer : Offer)
      → Contains (between start end offers) offer ↔ IsOwnOffer packages name offer
  offers-between offers own offer =
      let short : end ≤ length offers = omega (arith, span.within, own.counted) in
      let iff = stands-between offers start end short offer in
      let Has : Package → Type 0 = λ p. (offer.place ≡ length p.provides) × (p.name ≡ name) in (
        (λ there.
            let at = iff.0 there in
            let k : ℕ = at.0 in
            let is = own.each k offer at.3 in
            let placed = here-at (λ (p : Package). offer.place ≡ length p.provides) packages k is.place in
            let named : placed.element.name ≡ name = (span.exact k placed.element placed.is).1 (at.1, at.2) in
            subst (λ (n : ℕ). IsPackageAnd packages n Has) (sym is.number) (at-has Has packages k placed.element placed.is (placed.holds, named))),
        λ here.
            let at = here-at Has packages offer.number here in
            let both = (span.exact offer.number at.element at.is).0 at.holds.1 in
            let there = element-at offers offer.number (omega (arith, both.1, short)) in
            let is = own.each offer.number there.element there.is in
            let place : there.element.place ≡ length at.element.provides =
            has-at (λ (p : Package). there.element.place ≡ length p.provides) packages offer.number at.element at.is is.place in
            let same_place : there.element.place ≡ offer.place = place ∙ sym at.holds.0 in
            let same_number : there.element.number ≡ offer.number = is.number in
            let same : there.element ≡ offer = λ i. record { number = same_number i; place = same_place i } in
            iff.1 (offer.number, both.0, both.1, there.is ∙ ap (λ (o : Offer). Some o) same),
      )

-- ---- in the order of versions

pub own-version : (packages : List Package) (k : ℕ) (offer : Offer) (p : Package) → IsOwnAt packages k offer → slice_get packages k ≡ Some p
    → version_of packages offer ≡ Some p.version
own-version packages k offer p own is =
    let here : slice_get packages offer.number ≡ Some p = ap (slice_get packages) own.number ∙ is in
    let place : offer.place ≡ length p.provides = has-at (λ (x : Package). offer.place ≡ length x.provides) packages k p is own.place in
    let past : slice_get p.provides offer.place ≡ None = slice_get_past p.provides offer.place (omega (arith, place)) in
    version-is packages offer p here ∙ ap (version_in p) past

versions-up : (a b : List ℕ) (o : Ordering) → o ≡ Equal → ordering_then o (version_cmp a b) ≡ Less → is_lt (version_cmp b a) ≡ false
versions-up a b o tied less =
    let below : version_cmp a b ≡ Less = sym (ap (λ (x : Ordering). ordering_then x (version_cmp a b)) tied) ∙ less in
    ap is_lt (version_total.antisymm b a ∙ ap ordering_reverse below)

pub order-between : (packages : List Package) (name : List ℕ) (start end : ℕ) (offers : List Offer) → IsInOrder packages → IsSpan packages name start end
    → AreOwn packages (length packages) offers → AreInVersionOrder packages (between start end offers)
order-between packages name start end offers ordered span own k d low short =
    let in_offers : end ≤ length offers = omega (arith, span.within, own.counted) in
    let all : length (between start end offers) ≡ end - start = length-between offers start end in_offers in
    let i : ℕ = start + k in
    let less : start + (k + 1) < end = omega (arith, short, all) in
    let p = element-at packages i (omega (arith, less, span.within)) in
    let q = element-at packages (start + (k + 1)) (omega (arith, less, span.within)) in
    let a = element-at offers i (omega (arith, less, in_offers)) in
    let b = element-at offers (start + (k + 1)) (omega (arith, less, in_offers)) in
    let a_is : get_or (between start end offers) k d ≡ a.element =
    get_or-between offers start end k d (omega (arith, less)) ∙ get_or_from_slice_get offers i a.element d a.is in
    let b_is : get_or (between start end offers) (k + 1) d ≡ b.element =
    get_or-between offers start end (k + 1) d (omega (arith, less)) ∙ get_or_from_slice_get offers (start + (k + 1)) b.element d b.is in
    let first : version_of packages (get_or (between start end offers) k d) ≡ Some p.element.version =
    ap (version_of packages) a_is ∙ own-version packages i a.element p.element (own.each i a.element a.is) p.is in
    let second : version_of packages (get_or (between start end offers) (k + 1) d) ≡ Some q.element.version =
    ap (version_of packages) b_is ∙ own-version packages (start + (k + 1)) b.element q.element (own.each (start + (k + 1)) b.element b.is) q.is in
    let p_name : p.element.name ≡ name = (span.exact i p.element p.is).1 (omega arith, omega (arith, less)) in
    let q_name : q.element.name ≡ name = (span.exact (start + (k + 1)) q.element q.is).1 (omega arith, less) in
    let tied : slice_cmp nat_cmp p.element.name q.element.name ≡ Equal =
    ap (slice_cmp nat_cmp p.element.name) (q_name ∙ sym p_name) ∙ tied_itself nat_list_cmp_total p.element.name in
    let below = package-less packages i (start + (k + 1)) p.element q.element ordered (omega arith) p.is q.is in
    ap (λ (o : Option (List ℕ)). is_lt (option_cmp version_cmp o (version_of packages (get_or (between start end offers) k d)))) second
    ∙ ap (λ (o : Option (List ℕ)). is_lt (option_cmp version_cmp (Some q.element.version) o)) first
    ∙ versions-up p.element.version q.element.version (slice_cmp nat_cmp p.element.name q.element.name) tied below
