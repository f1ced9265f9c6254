-- Packages as they are that an atom matches, by what is offered of its name and by the providers of it.
use Rattle.std.proofs.Common.{◌≡◌, ◌⊎◌, ℕ, ◌<◌, List, None, Option, length, refl, sym, ap, subst, inl, inr}
use Rattle.std.specs.Prelude.{Any, Contains, IfSome, IsSomeAnd}
use Rattle.dist_base.specs.ListLaws.{any-contained, any-more, at-more, within-from}
use Rattle.dist_relation.specs.Satisfies.{Satisfies}
use Rattle.dist_relation.specs.declared.atom.Atom.{Atom}
use Rattle.dist_relation.specs.declared.atom.Bound.{Bound}
use Rattle.dist_repo.specs.Match.{IsUsable, Matches, MatchesByEntry}
use Rattle.dist_repo.specs.Offers.{AreMatched}
use Rattle.dist_repo.specs.PackageList.{IsPackageAnd}
use Rattle.dist_repo.specs.Providers.{AreProviders, IsProvider}
use Rattle.dist_repo.specs.declared.offers.Offer.{Offer}
use Rattle.dist_repo.specs.declared.package.Package.{Package}
use Rattle.dist_space_clauses.specs.GatheringPrivate.{IsFresh, IsLater, IsLaterOf, IsPresentMatched}
use Rattle.dist_space_clauses.specs.Moving.{AreCandidates}
use Rattle.dist_space.specs.Space.{IsMatchedBy, SpaceView}
use Rattle.dist_space.specs.declared.meaning.Meaning.{Meaning}
use Rattle.dist_space.specs.declared.meaning.Meaning.TheVariants.{Now, Present, At, New, Kept, Fresh}
use Rattle.dist_space_clauses.proofs.MatchLemmas.{MatchedAnd}

module _ (s : SpaceView) (atom : Atom) where
  abbrev IsMatchedNumber : ℕ → Type 0
  IsMatchedNumber number = IsPackageAnd s.repository.packages number (Matches s.repository.architecture atom)

  pub matched-within : (number : ℕ) → IsMatchedNumber number → number < length s.repository.packages
  matched-within number here = within-from (Matches s.repository.architecture atom) s.repository.packages number here

  pub present-of : (number : ℕ) (m : Meaning) → IsMatchedNumber number → m ≡ Present number → IsPresentMatched s atom m
  present-of number m here same = subst (IsPresentMatched s atom) (sym same) here

  pub present-matched : (m : Meaning) → IsPresentMatched s atom m → IsMatchedBy s atom m
  present-matched Now here = absurd here
  present-matched (Present r) here = here
  present-matched (At c k) here = absurd here
  present-matched (New r k) here = absurd here
  present-matched (Kept r k j) here = absurd here
  present-matched (Fresh x k) here = absurd here

  -- ---- by offers

  pub offer-matched : (offers : List Offer) → AreMatched s.repository atom offers → (offer : Offer) → Contains offers offer → IsMatchedNumber offer.number
  offer-matched offers are offer there = (are offer.number).0 (any-contained (λ (o : Offer). o.number ≡ offer.number) offers offer there refl)

  pub present-offered : (offers : List Offer) → AreMatched s.repository atom offers → (m : Meaning) → IsPresentMatched s atom m
      → Any (λ offer. m ≡ Present offer.number) offers
  present-offered offers are Now here = absurd here
  present-offered offers are (Present r) here =
      any-more (λ (o : Offer). o.number ≡ r) (λ (o : Offer). Present r ≡ Present o.number) (λ o is. ap (λ (i : ℕ). Present i) (sym is)) offers
      ((are r).1 here)
  present-offered offers are (At c k) here = absurd here
  present-offered offers are (New r k) here = absurd here
  present-offered offers are (Kept r k j) here = absurd here
  present-offered offers are (Fresh x k) here = absurd here

  -- ---- by providers

  matched-provides : (p : Package) → Matches s.repository.architecture atom p → IsProvider s.repository.architecture atom.name p
  matched-provides p matches = elim matches.matched [
    | inl by_name ↦ inl by_name.name
    | inr any ↦ let by_entry : MatchesByEntry s.repository.architecture atom any.1 = any.4 in inr (any.0, any.1, any.2, any.3, (by_entry.usable, by_entry.name))
  ]

  -- any version meets no bound
  unbounded : (P : Bound → Type 0) (bound : Option Bound) → bound ≡ None → IfSome bound P
  unbounded P bound none = subst (λ (b : Option Bound). IfSome b P) (sym none) tt

  provides-matched : atom.bound ≡ None → IsUsable s.repository.architecture atom.qualifier → (p : Package)
      → IsProvider s.repository.architecture atom.name p → Matches s.repository.architecture atom p
  provides-matched none usable p provides = record {
    usable = usable;
    matched = elim provides [
      | inl name ↦ inl (record { name = name; bound = unbounded (λ bound. Satisfies p.version bound) atom.bound none })
      | inr any ↦ inr (
        any.0,
        any.1,
        any.2,
        any.3,
        record {
          usable = any.4.0;
          name = any.4.1;
          bound = unbounded (λ bound. IsSomeAnd any.1.version (λ version. Satisfies version bound)) atom.bound none;
        },
      )
    ];
  }

  pub provider-matched : (providers : List ℕ) (number : ℕ) → atom.bound ≡ None → IsUsable s.repository.architecture atom.qualifier
      → AreProviders s.repository atom.name providers → Contains providers number → IsMatchedNumber number
  provider-matched providers number none usable are there =
      at-more (IsProvider s.repository.architecture atom.name) (Matches s.repository.architecture atom) (provides-matched none usable) s.repository.packages
      number ((are.exact number).0 there)

  pub present-provided : (providers : List ℕ) → AreProviders s.repository atom.name providers → (m : Meaning) → IsPresentMatched s atom m
      → Any (λ number. m ≡ Present number) providers
  present-provided providers are Now here = absurd here
  present-provided providers are (Present r) here =
      any-contained (λ (number : ℕ). Present r ≡ Present number) providers r
      ((are.exact r).1 (at-more (Matches s.repository.architecture atom) (IsProvider s.repository.architecture atom.name) matched-provides
      s.repository.packages r here)) refl
  present-provided providers are (At c k) here = absurd here
  present-provided providers are (New r k) here = absurd here
  present-provided providers are (Kept r k j) here = absurd here
  present-provided providers are (Fresh x k) here = absurd here

  -- ---- all that is matched

  pub later-cases : (numbers : List ℕ) (m : Meaning) → AreCandidates s atom numbers → IsLater m → IsMatchedBy s atom m
      → Any (λ number. MatchedAnd s atom (IsLaterOf number) m) numbers ⊎ MatchedAnd s atom IsFresh m
  later-cases numbers Now are later matched = absurd later
  later-cases numbers (Present r) are later matched = absurd later
  later-cases numbers (At c k) are later matched = absurd later
  later-cases numbers (New r k) are later matched =
      inl (any-contained (λ (number : ℕ). MatchedAnd s atom (IsLaterOf number) (New r k)) numbers r (are.whole r (New r k) refl matched) (refl, matched))
  later-cases numbers (Kept r k j) are later matched =
      inl (any-contained (λ (number : ℕ). MatchedAnd s atom (IsLaterOf number) (Kept r k j)) numbers r (are.whole r (Kept r k j) refl matched) (refl, matched))
  later-cases numbers (Fresh x k) are later matched = inr (tt, matched)

  pub matched-parts : (numbers : List ℕ) (m : Meaning) → AreCandidates s atom numbers → IsMatchedBy s atom m
      → IsPresentMatched s atom m ⊎ Any (λ number. MatchedAnd s atom (IsLaterOf number) m) numbers ⊎ MatchedAnd s atom IsFresh m
  matched-parts numbers Now are matched = absurd matched
  matched-parts numbers (Present r) are matched = inl matched
  matched-parts numbers (At c k) are matched = absurd matched
  matched-parts numbers (New r k) are matched = inr (later-cases numbers (New r k) are tt matched)
  matched-parts numbers (Kept r k j) are matched = inr (later-cases numbers (Kept r k j) are tt matched)
  matched-parts numbers (Fresh x k) are matched = inr (later-cases numbers (Fresh x k) are tt matched)
