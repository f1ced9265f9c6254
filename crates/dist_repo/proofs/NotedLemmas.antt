-- What is noted of one package, and of all packages so far.
use Rattle.std.proofs.Common.{◌≡◌, ◌↔◌, ◌⊎◌, ℕ, ◌+◌, ◌<◌, ◌≤◌, List, [], length, Some, Option, sym, subst}
use Rattle.std.proofs.Common.{arith, inl, inr, slice_get}
use Rattle.std.specs.Prelude.{Contains, IsSomeAnd}
use Rattle.std.proofs.lemmas.Bool.{cases_lt}
use Rattle.dist_base.specs.ListLaws.{at-has, has-at, within-from}
use Rattle.dist_relation.specs.declared.atom.Provide.{Provide}
use Rattle.dist_repo.specs.Match.{IsUsable}
use Rattle.dist_repo.specs.Offers.{IsEntryOffer}
use Rattle.dist_repo.specs.PackageList.{IsPackageAnd}
use Rattle.dist_repo.specs.Providers.{IsEntryOf}
use Rattle.dist_repo.specs.TallyPrivate.{offers_at, IsTallyOf, Notes, NotesEach}
use Rattle.dist_repo.specs.declared.offers.Offer.{Offer}
use Rattle.dist_repo.specs.declared.package.Package.{Package}

abbrev Entries : Type 0
Entries = List (List ℕ × List Offer)

-- an entry at a place of the package has the name
abbrev pub IsEntryAt : Option (List ℕ) → Package → List ℕ → ℕ → Type 0
IsEntryAt architecture p q k = IsSomeAnd (slice_get p.provides k) (IsEntryOf architecture q)

-- ---- one package

each-iff : (a b : Entries) (P Q : List ℕ → ℕ → Type 0) (n : ℕ) → ((q : List ℕ) (k : ℕ) → P q k ↔ Q q k) → NotesEach a b P n → NotesEach a b Q n
each-iff a b P Q n same notes q offer = (
  (λ there. elim ((notes q offer).0 there) [ inl h ↦ inl h | inr h ↦ inr ((same q offer.place).0 h.0, h.1) ]),
  λ either. (notes q offer).1 (elim either [ inl h ↦ inl h | inr h ↦ inr ((same q offer.place).1 h.0, h.1) ]),
)

each-more : (a b c : Entries) (P Q : List ℕ → ℕ → Type 0) (n : ℕ) → NotesEach a b P n → NotesEach b c Q n → NotesEach a c (λ q k. P q k ⊎ Q q k) n
each-more a b c P Q n first second q offer = (
  (λ there. elim ((second q offer).0 there) [
    | inl h ↦ elim ((first q offer).0 h) [ inl g ↦ inl g | inr g ↦ inr (inl g.0, g.1) ]
    | inr h ↦ inr (inr h.0, h.1)
  ]),
  λ either. (second q offer).1 (elim either [
    | inl h ↦ inl ((first q offer).1 (inl h))
    | inr h ↦ elim h.0 [ inl g ↦ inl ((first q offer).1 (inr (g, h.1))) | inr g ↦ inr (g, h.1) ]
  ]),
)

-- the package offers the name by one of its first entries
abbrev pub IsOfferBy : Option (List ℕ) → Package → ℕ → List ℕ → ℕ → Type 0
IsOfferBy architecture p count q k = (k < count) × IsSomeAnd (slice_get p.provides k) (IsEntryOf architecture q)

pub each-none : (a : Entries) (architecture : Option (List ℕ)) (p : Package) (n : ℕ) → NotesEach a a (IsOfferBy architecture p 0) n
each-none a architecture p n q offer = (
  (λ there. inl there),
  λ either. elim either [ inl h ↦ h | inr h ↦ absurd (omega (arith, h.0.0)) ],
)

pub each-usable : (a b c : Entries) (architecture : Option (List ℕ)) (p : Package) (place : ℕ) (entry : Provide) (n : ℕ)
    → slice_get p.provides place ≡ Some entry → IsUsable architecture entry.qualifier → NotesEach a b (IsOfferBy architecture p place) n
    → Notes b c entry.name n place → NotesEach a c (IsOfferBy architecture p (place + 1)) n
each-usable a b c architecture p place entry n here usable before notes =
    each-iff a c (λ q k. IsOfferBy architecture p place q k ⊎ ((q ≡ entry.name) × (k ≡ place))) (IsOfferBy architecture p (place + 1)) n (λ q k.
    let Of : ℕ → Type 0 = λ j. IsSomeAnd (slice_get p.provides j) (IsEntryOf architecture q) in (
      (λ either. elim either [
        | inl g ↦ (omega (arith, g.0), g.1)
        | inr same ↦ (
          omega (arith, same.1),
          subst Of (sym same.1) (at-has (IsEntryOf architecture q) p.provides place entry here (usable, sym same.0)),
        )
      ]),
      λ h. elim (cases_lt k place) [
        | inl less ↦ inl (less, h.1)
        | inr most ↦
            let same : k ≡ place = omega (arith, h.0) in
            let at = has-at (IsEntryOf architecture q) p.provides place entry here (subst Of same h.1) in
            inr (sym at.1, same)
      ],
    )) (each-more a b c (IsOfferBy architecture p place) (λ q k. (q ≡ entry.name) × (k ≡ place)) n before notes)

pub each-unusable : (a b : Entries) (architecture : Option (List ℕ)) (p : Package) (place : ℕ) (entry : Provide) (n : ℕ)
    → slice_get p.provides place ≡ Some entry → ¬ IsUsable architecture entry.qualifier → NotesEach a b (IsOfferBy architecture p place) n
    → NotesEach a b (IsOfferBy architecture p (place + 1)) n
each-unusable a b architecture p place entry n here unusable before =
    each-iff a b (IsOfferBy architecture p place) (IsOfferBy architecture p (place + 1)) n (λ q k.
    let Of : ℕ → Type 0 = λ j. IsSomeAnd (slice_get p.provides j) (IsEntryOf architecture q) in (
      (λ g. (omega (arith, g.0), g.1)),
      λ h. elim (cases_lt k place) [
        | inl less ↦ (less, h.1)
        | inr most ↦
            let same : k ≡ place = omega (arith, h.0) in
            let at = has-at (IsEntryOf architecture q) p.provides place entry here (subst Of same h.1) in
            absurd (unusable at.0)
      ],
    )) before

pub each-all : (a b : Entries) (architecture : Option (List ℕ)) (p : Package) (place n : ℕ) → length p.provides ≤ place
    → NotesEach a b (IsOfferBy architecture p place) n → NotesEach a b (IsEntryAt architecture p) n
each-all a b architecture p place n past notes =
    each-iff a b (IsOfferBy architecture p place) (IsEntryAt architecture p) n (λ q k. (
      (λ g. g.1),
      λ g. (let short = within-from (IsEntryOf architecture q) p.provides k g in omega (arith, short, past), g),
    )) notes

-- ---- all packages so far

abbrev pub IsTallyBelow : Option (List ℕ) → List Package → ℕ → Entries → Type 0
IsTallyBelow architecture packages number tally = (q : List ℕ) (offer : Offer) → Contains (offers_at tally q) offer
    ↔ ((offer.number < number) × IsEntryOffer architecture packages q offer)

pub tally-none : (architecture : Option (List ℕ)) (packages : List Package) → IsTallyBelow architecture packages 0 []
tally-none architecture packages q offer = ((λ there. absurd (omega (arith, there.1))), λ both. absurd (omega (arith, both.0)))

pub tally-more : (architecture : Option (List ℕ)) (packages : List Package) (number : ℕ) (p : Package) (a b : Entries) → slice_get packages number ≡ Some p →
    IsTallyBelow architecture packages number a → NotesEach a b (IsEntryAt architecture p) number → IsTallyBelow architecture packages (number + 1) b
tally-more architecture packages number p a b here before notes q offer =
    let Of : Package → Type 0 = λ x. IsEntryAt architecture x q offer.place in
    let At : ℕ → Type 0 = λ n. IsPackageAnd packages n Of in (
      (λ there. elim ((notes q offer).0 there) [
        | inl h ↦ let both = (before q offer).0 h in (omega (arith, both.0), both.1)
        | inr h ↦ (omega (arith, h.1), subst At (sym h.1) (at-has Of packages number p here h.0))
      ]),
      λ both. (notes q offer).1 (elim (cases_lt offer.number number) [
        | inl h ↦ inl ((before q offer).1 (h, both.1))
        | inr h ↦ let same : offer.number ≡ number = omega (arith, both.0) in inr (has-at Of packages number p here (subst At same both.1), same)
      ]),
    )

pub tally-all : (architecture : Option (List ℕ)) (packages : List Package) (number : ℕ) (tally : Entries) → length packages ≤ number
    → IsTallyBelow architecture packages number tally → IsTallyOf architecture packages tally
tally-all architecture packages number tally past below q offer = (
  (λ there. ((below q offer).0 there).1),
  λ here. (below q offer).1
      (let at = within-from (λ p. IsEntryAt architecture p q offer.place) packages offer.number here in omega (arith, at, past), here),
)
