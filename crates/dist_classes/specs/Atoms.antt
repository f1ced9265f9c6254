-- The atoms of a repository, and the versions that they name in their bounds (Debian Policy 7.1).
use Rattle.std.specs.Prelude.{◌≡◌, ◌⊎◌, ℕ, List, Any, Contains, IsSomeAnd}
use Rattle.dist_version.specs.Spelling.{IsVersion}
use Rattle.dist_relation.specs.declared.atom.Atom.{Atom}
use Rattle.dist_repo.specs.Match.{IsUsable}
use Rattle.dist_repo.specs.PackageList.{PackageList}
use Rattle.dist_repo.specs.declared.package.Package.{Package}

-- an alternative of some item of some package's dependencies
abbrev pub IsDependencyAtom : List Package → Atom → Type 0
IsDependencyAtom packages atom = Any (λ p. Any (λ item. Contains item atom) p.depends) packages

-- an atom of some package's conflicts
abbrev pub IsConflictAtom : List Package → Atom → Type 0
IsConflictAtom packages atom = Any (λ p. Contains p.conflicts atom) packages

-- The atoms of a repository are the usable ones of all its items and conflicts.
pub record IsAtomOf (r : PackageList) (atom : Atom) : Type 0 where
  pub usable : IsUsable r.architecture atom.qualifier
  pub there : IsDependencyAtom r.packages atom ⊎ IsConflictAtom r.packages atom

-- The version stands in the bound of an atom of the repository, of a name that the test allows.
pub record IsBoundOn (r : PackageList) (Allows : List ℕ → Type 0) (version : List ℕ) : Type 0 where
  pub atom : Atom
  pub is_atom : IsAtomOf r atom
  pub allowed : Allows atom.name
  pub bound : IsSomeAnd atom.bound (λ bound. bound.version ≡ version)

-- the bounds of the repository's atoms have versions, as those of a repository that was read do
abbrev pub AreBoundsVersions : PackageList → Type 0
AreBoundsVersions r = (version : List ℕ) → IsBoundOn r (λ name. Unit {0}) version → IsVersion version
