-- The offers that an atom matches, as far as they were gone through.
use Rattle.std.proofs.Common.{◌≡◌, ℕ, ◌+◌, ◌<◌, ◌≤◌, Bool, true, List, ◌++◌, ◌∷◌, [], length, get_or, Some, refl, sym, ap, subst, ◌∙◌}
use Rattle.std.proofs.Common.{arith, inl, inr, slice_get}
use Rattle.std.specs.Prelude.{Any, IsSomeAnd}
use Rattle.std.proofs.lemmas.Bool.{cases_lt}
use Rattle.std.proofs.lemmas.Option.{slice_get-get_or}
use Rattle.dist_base.specs.ListLaws.{any-at, at-has, found-at, has-at, here-at, within-from}
use Rattle.dist_relation.specs.declared.atom.Atom.{Atom}
use Rattle.dist_repo.specs.Match.{Matches}
use Rattle.dist_repo.specs.Offers.{AreMatched}
use Rattle.dist_repo.specs.PackageList.{PackageList, IsPackageAnd}
use Rattle.dist_repo.specs.declared.offers.Offer.{Offer}
use Rattle.dist_now.specs.GatheringPrivate.{Adds}
use Rattle.dist_now.specs.Members.{members_of}
use Rattle.dist_now.proofs.AddsLemmas.{UpTo, AddsUpTo, adds-one, adds-same}
use Rattle.dist_now.proofs.MemberLemmas.{any-member, member-any}

-- the number of the package at a place
abbrev pub IsNumberAt : List Offer → ℕ → ℕ → Type 0
IsNumberAt offers i x = IsSomeAnd (slice_get offers i) (λ offer. offer.number ≡ x)

-- the offer at a place
abbrev pub offer_at : List Offer → ℕ → Offer
offer_at offers i = get_or offers i (record { number = 0; place = 0 })

pub offer-is : (offers : List Offer) (i : ℕ) → i < length offers → slice_get offers i ≡ Some (offer_at offers i)
offer-is offers i short = slice_get-get_or offers i (record { number = 0; place = 0 }) short

pub adds-number : (offers : List Offer) (i : ℕ) (offer : Offer) (numbers : List ℕ) → slice_get offers i ≡ Some offer
    → Adds numbers (numbers ++ offer.number ∷ []) (IsNumberAt offers i)
adds-number offers i offer numbers is =
    adds-one numbers offer.number (IsNumberAt offers i) (at-has (λ (o : Offer). o.number ≡ offer.number) offers i offer is refl)
    (λ x at. has-at (λ (o : Offer). o.number ≡ x) offers i offer is at)

module _ (r : PackageList) (atom : Atom) (offers : List Offer) (are : AreMatched r atom offers) where
  -- all were gone through
  pub matched-all : (count : ℕ) (old new : List ℕ) → length offers ≤ count → AddsUpTo old new (IsNumberAt offers) count
      → Adds old new (λ k. IsPackageAnd r.packages k (Matches r.architecture atom))
  matched-all count old new past adds =
      adds-same old new (UpTo (IsNumberAt offers) count) (λ k. IsPackageAnd r.packages k (Matches r.architecture atom))
      (λ k up.
      let at = here-at (λ (o : Offer). o.number ≡ k) offers up.0 up.2 in
      (are k).0 (any-at (λ (o : Offer). o.number ≡ k) offers up.0 at.element at.is at.holds))
      (λ k here.
      let at = found-at (λ (o : Offer). o.number ≡ k) offers ((are k).1 here) in
      let there = at-has (λ (o : Offer). o.number ≡ k) offers at.place at.element at.is at.holds in
      let short = within-from (λ (o : Offer). o.number ≡ k) offers at.place there in
      (at.place, omega (arith, short, past), there))
      adds

  pub matched-at : (i : ℕ) (offer : Offer) → slice_get offers i ≡ Some offer → IsPackageAnd r.packages offer.number (Matches r.architecture atom)
  matched-at i offer is = (are offer.number).0 (any-at (λ (o : Offer). o.number ≡ offer.number) offers i offer is refl)

  pub matched-within : (i : ℕ) (offer : Offer) → slice_get offers i ≡ Some offer → offer.number < length r.packages
  matched-within i offer is = within-from (Matches r.architecture atom) r.packages offer.number (matched-at i offer is)

  -- a member among them
  pub member-matched : (flags : List Bool) (i : ℕ) (offer : Offer) → slice_get offers i ≡ Some offer → slice_get flags offer.number ≡ Some true
      → Any (Matches r.architecture atom) (members_of r.packages flags)
  member-matched flags i offer is member =
      member-any (Matches r.architecture atom) r.packages flags offer.number member (matched-at i offer is)

-- none so far is a member
abbrev pub IsNoMember : List Bool → List Offer → ℕ → Type 0
IsNoMember flags offers count = (k : ℕ) (offer : Offer) → k < count → slice_get offers k ≡ Some offer → ¬ (slice_get flags offer.number ≡ Some true)

pub none-more : (flags : List Bool) (offers : List Offer) (count : ℕ) (offer : Offer) → slice_get offers count ≡ Some offer
    → ¬ (slice_get flags offer.number ≡ Some true) → IsNoMember flags offers count → IsNoMember flags offers (count + 1)
none-more flags offers count offer is none before k other less at = elim (cases_lt k count) [
  | inl earlier ↦ before k other earlier at
  | inr here ↦
      let same : k ≡ count = omega arith in
      let one : Some offer ≡ Some other = sym is ∙ ap (slice_get offers) (sym same) ∙ at in
      let found : offer ≡ other = cc in
      let Not : Offer → Type 0 = λ o. ¬ (slice_get flags o.number ≡ Some true) in
      subst Not found none
]

pub none-met : (r : PackageList) (flags : List Bool) (atom : Atom) (offers : List Offer) (count : ℕ) → AreMatched r atom offers → length offers ≤ count
    → IsNoMember flags offers count → ¬ Any (Matches r.architecture atom) (members_of r.packages flags)
none-met r flags atom offers count are past none any =
    let m = any-member (Matches r.architecture atom) r.packages flags any in
    let at = found-at (λ (o : Offer). o.number ≡ m.number) offers ((are m.number).1 m.has) in
    let there = at-has (λ (o : Offer). o.number ≡ m.number) offers at.place at.element at.is at.holds in
    let short = within-from (λ (o : Offer). o.number ≡ m.number) offers at.place there in
    none at.place at.element (omega (arith, short, past)) at.is (ap (slice_get flags) at.holds ∙ m.member)
