-- What demands ask is decided: one way holds or the other. No public clause cites these laws; proofs do, those of the
-- crate above too.
use Rattle.std.proofs.Common.{◌≡◌, ℕ, ◌<◌, List, arith, inl, inr, slice_get}
use Rattle.std.specs.Prelude.{IsSomeAnd}
use Rattle.dist_relation.specs.declared.atom.Atom.{Atom}
use Rattle.dist_relation.specs.declared.atom.Provide.{Provide}
use Rattle.dist_repo.specs.DecidedLaws.{any-decided, at-decided, both-decided, bound-decided, entry-decided, IsDecided}
use Rattle.dist_repo.specs.DecidedLaws.{matches-decided, text-decided, usable-decided}
use Rattle.dist_repo.specs.Match.{Matches, MatchesByEntry}
use Rattle.dist_repo.specs.declared.package.Package.{Package}
use Rattle.std.proofs.lemmas.Bool.{cases_lt}
use Rattle.dist_space.specs.Space.{IsMatched, IsMatchedBy, IsMetBy, MeetsBound, SpaceView, example_at, fresh_classes}
use Rattle.dist_space.specs.Space.{member_classes, moved_entry}
use Rattle.dist_space.specs.declared.meaning.Meaning.{Meaning}
use Rattle.dist_space.specs.declared.meaning.Meaning.TheVariants.{Now, Present, At, New, Kept, Fresh}
use Rattle.dist_space_clauses.specs.SpaceClauses.{IsBearer}

pub less-decided : (a b : ℕ) → IsDecided (a < b)
less-decided a b = elim (cases_lt a b) [
  | inl less ↦ inl less
  | inr past ↦ inr (λ less. omega (arith, less, past))
]

module _ (s : SpaceView) where
  matched-decided : (atom : Atom) (m : Meaning) → IsDecided (IsMatchedBy s atom m)
  matched-decided atom Now = inr (λ h. h)
  matched-decided atom (Present r) = at-decided (Matches s.repository.architecture atom)
      (matches-decided s.repository.architecture atom) s.repository.packages r
  matched-decided atom (At c k) = inr (λ h. h)
  matched-decided atom (New r k) = at-decided
      (λ (p : Package). (p.name ≡ atom.name) × MeetsBound atom (example_at (member_classes s r) k))
      (λ p. both-decided (text-decided p.name atom.name) (bound-decided (example_at (member_classes s r) k) atom.bound))
      s.repository.packages r
  matched-decided atom (Kept r k j) = at-decided
      (λ (p : Package). IsSomeAnd (slice_get p.provides j)
      (λ entry. MatchesByEntry s.repository.architecture atom
      (moved_entry p.version (example_at (member_classes s r) k) entry)))
      (λ p. at-decided (λ (entry : Provide). MatchesByEntry s.repository.architecture atom
      (moved_entry p.version (example_at (member_classes s r) k) entry))
      (λ entry. entry-decided s.repository.architecture atom
      (moved_entry p.version (example_at (member_classes s r) k) entry)) p.provides j) s.repository.packages r
  matched-decided atom (Fresh x k) = at-decided
      (λ (name : List ℕ). (name ≡ atom.name) × MeetsBound atom (example_at (fresh_classes s x) k))
      (λ name. both-decided (text-decided name atom.name) (bound-decided (example_at (fresh_classes s x) k) atom.bound))
      s.names x

  pub met-decided : (atoms : List Atom) (m : Meaning) → IsDecided (IsMetBy s atoms m)
  met-decided atoms m = any-decided (λ atom. IsMatched s atom m)
      (λ atom. both-decided (usable-decided s.repository.architecture atom.qualifier) (matched-decided atom m)) atoms

  pub bearer-decided : (name : List ℕ) (m : Meaning) → IsDecided (IsBearer s name m)
  bearer-decided name Now = inr (λ h. h)
  bearer-decided name (Present r) = at-decided (λ (p : Package). p.name ≡ name) (λ p. text-decided p.name name)
      s.repository.packages r
  bearer-decided name (At c k) = inr (λ h. h)
  bearer-decided name (New r k) = at-decided (λ (p : Package). p.name ≡ name) (λ p. text-decided p.name name)
      s.repository.packages r
  bearer-decided name (Kept r k j) = inr (λ h. h)
  bearer-decided name (Fresh x k) = inr (λ h. h)
