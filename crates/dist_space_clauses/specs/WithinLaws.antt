-- What an atom matches in a space, a wider one matches too. No public clause cites these laws; proofs do, here and
-- above.
use Rattle.std.proofs.Common.{◌≡◌, ℕ, List, ◌∙◌, slice_get}
use Rattle.std.specs.Prelude.{IsSomeAnd}
use Rattle.dist_asked.specs.AskedLaws.{IsByWidth}
use Rattle.dist_asked.specs.Within.{IsWithin}
use Rattle.dist_base.specs.ListLaws.{at-more}
use Rattle.dist_now.specs.WithinLaws.{bound-within, entry-within, matches-within, usable-within}
use Rattle.dist_relation.specs.declared.atom.Atom.{Atom}
use Rattle.dist_relation.specs.declared.atom.Provide.{Provide}
use Rattle.dist_repo.specs.Match.{Matches, MatchesByEntry}
use Rattle.dist_repo.specs.declared.package.Package.{Package}
use Rattle.dist_space.specs.Space.{IsMatched, IsMatchedBy, MeetsBound, SpaceView, example_at, fresh_classes}
use Rattle.dist_space.specs.Space.{member_classes, moved_entry}
use Rattle.dist_space.specs.declared.meaning.Meaning.{Meaning}
use Rattle.dist_space.specs.declared.meaning.Meaning.TheVariants.{Now, Present, At, New, Kept, Fresh}

by-within : (s : SpaceView) (atom other : Atom) (m : Meaning) → IsWithin atom other → IsMatchedBy s atom m
    → IsMatchedBy s other m
by-within s atom other Now within is = absurd is
by-within s atom other (Present r) within is =
    at-more (Matches s.repository.architecture atom) (Matches s.repository.architecture other)
    (λ p matches. matches-within s.repository.architecture atom other p within matches) s.repository.packages r is
by-within s atom other (At c k) within is = absurd is
by-within s atom other (New r k) within is =
    let example = example_at (member_classes s r) k in
    at-more (λ (p : Package). (p.name ≡ atom.name) × MeetsBound atom example)
    (λ (p : Package). (p.name ≡ other.name) × MeetsBound other example)
    (λ p both. (both.0 ∙ within.name, bound-within atom.bound other.bound example within.bound both.1))
    s.repository.packages r is
by-within s atom other (Kept r k j) within is =
    let architecture = s.repository.architecture in
    let example = example_at (member_classes s r) k in
    let Of : Atom → Package → Provide → Type 0 =
    λ a p entry. MatchesByEntry architecture a (moved_entry p.version example entry) in
    at-more (λ (p : Package). IsSomeAnd (slice_get p.provides j) (λ entry. Of atom p entry))
    (λ (p : Package). IsSomeAnd (slice_get p.provides j) (λ entry. Of other p entry))
    (λ p here. at-more (Of atom p) (Of other p)
    (λ entry meets. entry-within architecture atom other (moved_entry p.version example entry) within meets)
    p.provides j here)
    s.repository.packages r is
by-within s atom other (Fresh x k) within is =
    let example = example_at (fresh_classes s x) k in
    at-more (λ (name : List ℕ). (name ≡ atom.name) × MeetsBound atom example)
    (λ (name : List ℕ). (name ≡ other.name) × MeetsBound other example)
    (λ name both. (both.0 ∙ within.name, bound-within atom.bound other.bound example within.bound both.1)) s.names x is

pub matched-wider : (s : SpaceView) → IsByWidth (IsMatched s)
matched-wider s atom other m within both =
    (usable-within s.repository.architecture atom other within both.0, by-within s atom other m within both.1)
