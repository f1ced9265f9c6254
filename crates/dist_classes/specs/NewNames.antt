-- New names: those that dependencies name and no package of the repository has or provides.
use Rattle.std.specs.Prelude.{◌≡◌, ◌↔◌, ℕ, List, Any, Contains}
use Rattle.std.specs.Cmp.Lexicographic.{slice_cmp}
use Rattle.std.specs.List.Sorted.{IsStrictlySortedBy}
use Rattle.std.specs.Ordering.{nat_cmp}
use Rattle.dist_relation.specs.declared.atom.Atom.{Atom}
use Rattle.dist_repo.specs.Match.{IsUsable}
use Rattle.dist_repo.specs.PackageList.{PackageList}
use Rattle.dist_repo.specs.Providers.{IsProvider}
use Rattle.dist_classes.specs.Atoms.{IsDependencyAtom}

-- A usable atom of an item has the name, and no package has it or a usable entry of it.
pub record IsNewName (r : PackageList) (name : List ℕ) : Type 0 where
  pub atom : Atom
  pub usable : IsUsable r.architecture atom.qualifier
  pub there : IsDependencyAtom r.packages atom
  pub named : atom.name ≡ name
  pub unprovided : ¬ Any (λ p. IsProvider r.architecture name p) r.packages

-- the new names, in the order of their bytes
pub record AreNewNames (r : PackageList) (names : List (List ℕ)) : Type 0 where
  pub rising : IsStrictlySortedBy (slice_cmp nat_cmp) names
  pub exact : (name : List ℕ) → Contains names name ↔ IsNewName r name

-- a usable atom on this name, which no package has or provides
abbrev pub IsFreshAtom : PackageList → List ℕ → Atom → Type 0
IsFreshAtom r name atom = IsUsable r.architecture atom.qualifier × (atom.name ≡ name)
    × (¬ Any (λ p. IsProvider r.architecture name p) r.packages)
