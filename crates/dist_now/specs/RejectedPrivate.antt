-- What a member's conflict atoms match among the other members.
use Rattle.std.specs.Prelude.{◌≡◌, ◌≢◌, ℕ, Bool, true, List, Some, slice_get}
use Rattle.dist_relation.specs.declared.atom.Atom.{Atom}
use Rattle.dist_repo.specs.Match.{Matches}
use Rattle.dist_repo.specs.PackageList.{PackageList}
use Rattle.dist_repo.specs.declared.package.Package.{Package}
use Rattle.dist_now.specs.Members.{IsMemberAnd}

-- another member that an atom matches
abbrev pub IsRejectedBy : PackageList → List Bool → ℕ → Atom → ℕ → Type 0
IsRejectedBy r flags number atom k = (k ≢ number) × IsMemberAnd r.packages flags k (Matches r.architecture atom)

-- another member
abbrev pub IsOtherMember : List Bool → (number other : ℕ) → Type 0
IsOtherMember flags number other = (other ≢ number) × (slice_get flags other ≡ Some true)

-- the package of a number is a member, and a conflict atom of it matches another member
pub record IsRejected (r : PackageList) (flags : List Bool) (number k : ℕ) : Type 0 where
  pub p : Package
  pub is : slice_get r.packages number ≡ Some p
  pub member : slice_get flags number ≡ Some true
  pub atom : Atom
  pub place : ℕ
  pub is_atom : slice_get p.conflicts place ≡ Some atom
  pub rejected : IsRejectedBy r flags number atom k
