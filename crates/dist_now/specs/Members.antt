-- Installations given by one truth value per package.
use Rattle.std.specs.Prelude.{◌≡◌, ℕ, Bool, true, false, List, [], ◌∷◌, Some, slice_get}
use Rattle.dist_relation.specs.declared.atom.Atom.{Atom}
use Rattle.dist_repo.specs.PackageList.{IsPackageAnd}
use Rattle.dist_repo.specs.declared.package.Package.{Package}

-- the packages whose value is true
abbrev pub members_of : List Package → List Bool → List Package
members_of [] flags = []
members_of (p ∷ packages) [] = []
members_of (p ∷ packages) (true ∷ flags) = p ∷ members_of packages flags
members_of (p ∷ packages) (false ∷ flags) = members_of packages flags

-- the package of this number, from 0, is a member and has a property
pub record IsMemberAnd (packages : List Package) (flags : List Bool) (number : ℕ) (P : Package → Type 0) : Type 0 where
  pub member : slice_get flags number ≡ Some true
  pub has : IsPackageAnd packages number P

-- the item at a place of the dependencies of the package of a number
pub record IsItemAt (packages : List Package) (number place : ℕ) (item : List Atom) : Type 0 where
  pub holder : Package
  pub is_holder : slice_get packages number ≡ Some holder
  pub is_item : slice_get holder.depends place ≡ Some item
