-- An item of a package that is known by its place. No public clause cites these laws; proofs do, those of the crate
-- above too.
use Rattle.std.proofs.Common.{◌≡◌, ℕ, List, Some, slice_get}
use Rattle.std.specs.Prelude.{IsSomeAnd}
use Rattle.dist_base.specs.ListLaws.{at-has, has-at}
use Rattle.dist_relation.specs.declared.atom.Atom.{Atom}
use Rattle.dist_repo.specs.declared.package.Package.{Package}
use Rattle.dist_space.specs.Space.{SpaceView}
use Rattle.dist_space_clauses.specs.SpaceClauses.{IsItemAnd}

pub item-has : (s : SpaceView) (number place : ℕ) (P : Package → List Atom → Type 0) (p : Package) (item : List Atom)
    → slice_get s.repository.packages number ≡ Some p → slice_get p.depends place ≡ Some item
    → IsItemAnd s number place P → P p item
item-has s number place P p item is is_item here =
    has-at (P p) p.depends place item is_item
    (has-at (λ q. IsSomeAnd (slice_get q.depends place) (P q)) s.repository.packages number p is here)

pub item-at : (s : SpaceView) (number place : ℕ) (P : Package → List Atom → Type 0) (p : Package) (item : List Atom)
    → slice_get s.repository.packages number ≡ Some p → slice_get p.depends place ≡ Some item
    → P p item → IsItemAnd s number place P
item-at s number place P p item is is_item holds =
    at-has (λ q. IsSomeAnd (slice_get q.depends place) (P q)) s.repository.packages number p is
    (at-has (P p) p.depends place item is_item holds)
