-- Members, conflict atoms and new names of a space.
use Rattle.std.proofs.Common.{◌≡◌, ◌≢◌, ℕ, ◌<◌, List, Option, Some, length, inl, inr, subst, slice_get}
use Rattle.std.specs.Prelude.{Contains, IsSomeAnd}
use Rattle.std.specs.Option.{option_map}
use Rattle.std.proofs.lemmas.Option.{slice_get_within}
use Rattle.dist_base.specs.ListLaws.{any-at, contains-at}
use Rattle.dist_relation.specs.declared.atom.Atom.{Atom}
use Rattle.dist_repo.specs.Match.{IsUsable}
use Rattle.dist_repo.specs.declared.package.Package.{Package}
use Rattle.dist_classes.specs.Atoms.{IsAtomOf}
use Rattle.dist_space.specs.ClusterLaws.{has-cluster}
use Rattle.dist_space.specs.Space.{IsSpace, SpaceView, member_classes}
use Rattle.dist_future.specs.Future.{IsTaken}
use Rattle.dist_future.proofs.ClassMatch.{ClassLaws, IsMemberAt, member-at}

pub member-of-class : (laws : ClassLaws) (s : SpaceView) (space : IsSpace s) (r k : ℕ) (q : Package) → slice_get s.repository.packages r ≡ Some q
    → k < length (member_classes s r) → IsMemberAt s r k q
member-of-class laws s space r k q is short = member-at laws s space.frame r k q (has-cluster s space.frame r (slice_get_within s.repository.packages r q is))
    is short

pub conflict-atom : (s : SpaceView) (r : ℕ) (p : Package) (place : ℕ) (atom : Atom) → slice_get s.repository.packages r ≡ Some p
    → slice_get p.conflicts place ≡ Some atom → IsUsable s.repository.architecture atom.qualifier → IsAtomOf s.repository atom
conflict-atom s r p place atom is is_atom usable =
    record {
      usable = usable;
      there = inr (any-at (λ (q : Package). Contains q.conflicts atom) s.repository.packages r p is
          (contains-at p.conflicts place atom is_atom));
    }

-- another name than that of a member
pub other-name : (s : SpaceView) (o : ℕ) (q : Package) (name : List ℕ) → slice_get s.repository.packages o ≡ Some q
    → IsSomeAnd (option_map (λ (x : Package). x.name) (slice_get s.repository.packages o)) (λ n. n ≢ name) → q.name ≢ name
other-name s o q name is other =
    let Differs : Option Package → Type 0 = λ x. IsSomeAnd (option_map (λ (y : Package). y.name) x) (λ n. n ≢ name) in
    subst Differs is other

-- no package of the repository has a new name
pub never-taken : (s : SpaceView) (space : IsSpace s) (x : ℕ) (name : List ℕ) → slice_get s.names x ≡ Some name → ¬ IsTaken s.repository name
never-taken s space x name is taken =
    let new = (space.frame.names.exact name).0 (contains-at s.names x name is) in
    new.unprovided (taken.0, taken.1, taken.2, taken.3, inl taken.4)
