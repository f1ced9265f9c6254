-- What a package must be apart from, meaning by meaning.
use Rattle.std.proofs.Common.{◌≡◌, ◌≢◌, ◌⊎◌, ℕ, ◌<◌, List, [], Some, Option, length, refl, sym, ap, subst, ◌∙◌, inl, inr, arith, slice_get}
use Rattle.std.specs.Prelude.{All, Any, Contains, IsSomeAnd}
use Rattle.std.specs.Option.{option_map}
use Rattle.dist_base.specs.ListLaws.{all-contained, any-contained, any-more, any-there, at-has, has-at, here-at, within-from}
use Rattle.dist_asked.specs.Asked.{Adds}
use Rattle.dist_relation.specs.declared.atom.Atom.{Atom}
use Rattle.dist_now.specs.Partners.{IsPartner}
use Rattle.dist_repo.specs.Conflict.{AreInConflict}
use Rattle.dist_repo.specs.Match.{IsUsable}
use Rattle.dist_repo.specs.PackageList.{IsPackageAnd}
use Rattle.dist_repo.specs.declared.package.Package.{Package}
use Rattle.dist_space_clauses.specs.GatheringPrivate.{IsFresh, IsLater, IsLaterOf, IsPartnerOf}
use Rattle.dist_space.specs.Space.{IsMatched, IsMetBy, SpaceView, name_of}
use Rattle.dist_space_clauses.specs.SpaceClauses.{Excludes}
use Rattle.dist_space.specs.declared.meaning.Meaning.{Meaning}
use Rattle.dist_space.specs.declared.meaning.Meaning.TheVariants.{Now, Present, At, New, Kept, Fresh}
use Rattle.dist_space_clauses.proofs.MatchLemmas.{MatchedAnd, matched-name}

module _ (s : SpaceView) (number : ℕ) (p : Package) where
  -- the meaning is of another name
  abbrev pub IsNamedOther : Meaning → Type 0
  IsNamedOther m = IsSomeAnd (name_of s m) (λ name. name ≢ p.name)

  -- what later versions of another package have as their name
  named-as : (r other : ℕ) (q : Package) → r ≡ other → slice_get s.repository.packages other ≡ Some q
      → option_map (λ x. x.name) (slice_get s.repository.packages r) ≡ Some q.name
  named-as r other q same is = ap (λ (i : ℕ). option_map (λ (x : Package). x.name) (slice_get s.repository.packages i)) same
      ∙ ap (option_map (λ (x : Package). x.name)) is

  named-other : (name : List ℕ) (o : Option (List ℕ)) → o ≡ Some name → name ≢ p.name → IsSomeAnd o (λ x. x ≢ p.name)
  named-other name o is other = subst (λ (x : Option (List ℕ)). IsSomeAnd x (λ n. n ≢ p.name)) (sym is) other

  other-named : (name : List ℕ) (o : Option (List ℕ)) → o ≡ Some name → IsSomeAnd o (λ x. x ≢ p.name) → name ≢ p.name
  other-named name o is other = subst (λ (x : Option (List ℕ)). IsSomeAnd x (λ n. n ≢ p.name)) is other

  pub later-apart : (other : ℕ) (q : Package) (atom : Atom) (m : Meaning) → slice_get s.repository.packages other ≡ Some q → q.name ≢ p.name
      → Contains p.conflicts atom → IsUsable s.repository.architecture atom.qualifier → MatchedAnd s atom (IsLaterOf other) m → Excludes s number p m
  later-apart other q atom Now is differs there usable both = absurd both.0
  later-apart other q atom (Present r) is differs there usable both = absurd both.0
  later-apart other q atom (At c k) is differs there usable both = absurd both.0
  later-apart other q atom (New r k) is differs there usable both = (
    named-other q.name (name_of s (New r k)) (named-as r other q both.0 is) differs,
    any-contained (λ (a : Atom). IsMatched s a (New r k)) p.conflicts atom there (usable, both.1),
  )
  later-apart other q atom (Kept r k j) is differs there usable both = (
    named-other q.name (name_of s (Kept r k j)) (named-as r other q both.0 is) differs,
    any-contained (λ (a : Atom). IsMatched s a (Kept r k j)) p.conflicts atom there (usable, both.1),
  )
  later-apart other q atom (Fresh x k) is differs there usable both = absurd both.0

  pub apart-later : (other : ℕ) (q : Package) (m : Meaning) → slice_get s.repository.packages other ≡ Some q → IsLaterOf other m → Excludes s number p m
      → q.name ≢ p.name
  apart-later other q Now is later excluded = absurd later
  apart-later other q (Present r) is later excluded = absurd later
  apart-later other q (At c k) is later excluded = absurd later
  apart-later other q (New r k) is later excluded = other-named q.name (name_of s (New r k)) (named-as r other q later is) excluded.0
  apart-later other q (Kept r k j) is later excluded = other-named q.name (name_of s (Kept r k j)) (named-as r other q later is) excluded.0
  apart-later other q (Fresh x k) is later excluded = absurd later

  -- a matched package of a new name has the atom's name
  pub fresh-other : (atom : Atom) (m : Meaning) → atom.name ≢ p.name → MatchedAnd s atom IsFresh m → IsNamedOther m
  fresh-other atom Now differs both = absurd both.0
  fresh-other atom (Present r) differs both = absurd both.0
  fresh-other atom (At c k) differs both = absurd both.0
  fresh-other atom (New r k) differs both = absurd both.0
  fresh-other atom (Kept r k j) differs both = absurd both.0
  fresh-other atom (Fresh x k) differs both = named-other atom.name (slice_get s.names x) (matched-name s atom x k both.1) differs

  pub other-fresh : (atom : Atom) (m : Meaning) → MatchedAnd s atom IsFresh m → IsNamedOther m → atom.name ≢ p.name
  other-fresh atom Now both other = absurd both.0
  other-fresh atom (Present r) both other = absurd both.0
  other-fresh atom (At c k) both other = absurd both.0
  other-fresh atom (New r k) both other = absurd both.0
  other-fresh atom (Kept r k j) both other = absurd both.0
  other-fresh atom (Fresh x k) both other = other-named atom.name (slice_get s.names x) (matched-name s atom x k both.1) other

  pub fresh-apart : (atom : Atom) (m : Meaning) → Contains p.conflicts atom → IsUsable s.repository.architecture atom.qualifier → MatchedAnd s atom IsFresh m
      → IsNamedOther m → Excludes s number p m
  fresh-apart atom Now there usable both other = absurd both.0
  fresh-apart atom (Present r) there usable both other = absurd both.0
  fresh-apart atom (At c k) there usable both other = absurd both.0
  fresh-apart atom (New r k) there usable both other = absurd both.0
  fresh-apart atom (Kept r k j) there usable both other = absurd both.0
  fresh-apart atom (Fresh x k) there usable both other = (
    other,
    any-contained (λ (a : Atom). IsMatched s a (Fresh x k)) p.conflicts atom there (usable, both.1),
  )

  pub apart-fresh : (atom : Atom) (m : Meaning) → MatchedAnd s atom IsFresh m → Excludes s number p m → IsNamedOther m
  apart-fresh atom Now both excluded = absurd both.0
  apart-fresh atom (Present r) both excluded = absurd both.0
  apart-fresh atom (At c k) both excluded = absurd both.0
  apart-fresh atom (New r k) both excluded = absurd both.0
  apart-fresh atom (Kept r k j) both excluded = absurd both.0
  apart-fresh atom (Fresh x k) both excluded = excluded.0

  -- ---- all that it must be apart from

  pub partner-excluded : (m : Meaning) → slice_get s.repository.packages number ≡ Some p → IsPartnerOf s number m → Excludes s number p m
  partner-excluded Now is partner = absurd partner
  partner-excluded (Present other) is partner = (
    partner.0,
    has-at (λ (q : Package). IsPackageAnd s.repository.packages other (AreInConflict s.repository.architecture q)) s.repository.packages number p is partner.1,
  )
  partner-excluded (At c k) is partner = absurd partner
  partner-excluded (New r k) is partner = absurd partner
  partner-excluded (Kept r k j) is partner = absurd partner
  partner-excluded (Fresh x k) is partner = absurd partner

  -- a conflict atom of the package matches it
  abbrev pub ByOwn : Meaning → Type 0
  ByOwn m = Any (λ atom. IsLater m × IsMatched s atom m × Excludes s number p m) p.conflicts

  own : (m : Meaning) → IsLater m → Excludes s number p m → IsMetBy s p.conflicts m → ByOwn m
  own m later excluded met = any-more (λ (atom : Atom). IsMatched s atom m) (λ (atom : Atom). IsLater m × IsMatched s atom m × Excludes s number p m)
      (λ atom matched. (later, matched, excluded)) p.conflicts met

  pub excluded-cases : (m : Meaning) → slice_get s.repository.packages number ≡ Some p → Excludes s number p m → IsPartnerOf s number m ⊎ ByOwn m
  excluded-cases Now is excluded = absurd excluded.0
  excluded-cases (At c k) is excluded = absurd excluded.0
  excluded-cases (New r k) is excluded = inr (own (New r k) tt excluded excluded.1)
  excluded-cases (Kept r k j) is excluded = inr (own (Kept r k j) tt excluded excluded.1)
  excluded-cases (Fresh x k) is excluded = inr (own (Fresh x k) tt excluded excluded.1)
  excluded-cases (Present other) is excluded = inl (
    excluded.0,
    at-has (λ (q : Package). IsPackageAnd s.repository.packages other (AreInConflict s.repository.architecture q)) s.repository.packages number p is excluded.1,
  )

-- ---- the packages behind one that are in conflict with it

module _ (s : SpaceView) (number : ℕ) where
  -- some numbers are theirs
  abbrev pub ArePartners : List ℕ → Type 0
  ArePartners others = Adds [] others (IsPartner s.repository number)

  pub partners-within : (others : List ℕ) → ArePartners others → All (λ other. other < length s.repository.packages) others
  partners-within others are =
      all-contained (λ (other : ℕ). other < length s.repository.packages) others
      (λ other there. elim ((are other).0 there) [
        | inl none ↦ absurd (omega (arith, none.1))
        | inr partner ↦
            let Second : Package → Type 0 = λ p. IsPackageAnd s.repository.packages other (AreInConflict s.repository.architecture p) in
            let here = here-at Second s.repository.packages number partner.1 in
            within-from (AreInConflict s.repository.architecture here.element) s.repository.packages other here.holds
      ])

  pub listed-partner : (others : List ℕ) (m : Meaning) → ArePartners others → Any (λ other. m ≡ Present other) others → IsPartnerOf s number m
  listed-partner others m are any =
      subst (IsPartnerOf s number) (sym any.4) (elim ((are any.1).0 (any-there (λ (other : ℕ). m ≡ Present other) others any)) [
        | inl none ↦ absurd (omega (arith, none.1))
        | inr partner ↦ partner
      ])

  pub partner-listed : (others : List ℕ) (m : Meaning) → ArePartners others → IsPartnerOf s number m → Any (λ other. m ≡ Present other) others
  partner-listed others Now are partner = absurd partner
  partner-listed others (Present other) are partner =
      any-contained (λ (o : ℕ). Present other ≡ Present o) others other ((are other).1 (inr partner)) refl
  partner-listed others (At c k) are partner = absurd partner
  partner-listed others (New r k) are partner = absurd partner
  partner-listed others (Kept r k j) are partner = absurd partner
  partner-listed others (Fresh x k) are partner = absurd partner
