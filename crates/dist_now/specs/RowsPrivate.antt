-- The places of one member's faults.
use Rattle.std.specs.Prelude.{ℕ, ◌<◌, Bool, List, IsSomeAnd, slice_get}
use Rattle.dist_relation.specs.declared.atom.Atom.{Atom}
use Rattle.dist_repo.specs.Healthy.{IsMet}
use Rattle.dist_repo.specs.PackageList.{PackageList}
use Rattle.dist_repo.specs.declared.package.Package.{Package}
use Rattle.dist_now.specs.Members.{IsMemberAnd, members_of}

-- a member with a greater number, and a property
abbrev pub IsLater : PackageList → List Bool → ℕ → (Package → Type 0) → ℕ → Type 0
IsLater r flags first Q k = (first < k) × IsMemberAnd r.packages flags k Q

-- an item that no member meets
abbrev pub IsUnmetItem : PackageList → List Bool → List (List Atom) → ℕ → Type 0
IsUnmetItem r flags items place = IsSomeAnd (slice_get items place)
    (λ item. ¬ IsMet r.architecture (members_of r.packages flags) item)
