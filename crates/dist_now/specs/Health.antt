-- Where an installation is not healthy: four kinds of fault, tried in this order, each with its least place.
use Rattle.std.specs.Prelude.{◌≡◌, ℕ, ◌<◌, Bool, true, List, Any, IsSomeAnd, Some, slice_get}
use Rattle.dist_base.specs.Least.{IsLeast, IsLeastPair, IsNoPair}
use Rattle.dist_repo.specs.Conflict.{AreInConflict}
use Rattle.dist_repo.specs.Healthy as installation
use Rattle.dist_repo.specs.PackageList.{PackageList, IsPackageAnd}
use Rattle.dist_repo.specs.declared.package.Package.{Package}
use Rattle.dist_now.specs.Members.{IsMemberAnd, members_of}
use Rattle.dist_now.specs.declared.kinds.Health.{Health}
use Rattle.dist_now.specs.declared.kinds.Health.TheVariants.{Healthy, TwoVersions, Unmet, Conflict, EssentialMissing}

-- two members, the first with the lesser number, that stand in a relation
pub record AreMembers (r : PackageList) (flags : List Bool) (R : Package → Package → Type 0) (first second : ℕ) : Type 0
  where
    pub in_order : first < second
    pub second_member : slice_get flags second ≡ Some true
    pub related : IsMemberAnd r.packages flags first (λ p. IsPackageAnd r.packages second (R p))

-- of one name
abbrev pub AreTwoVersions : PackageList → List Bool → ℕ → ℕ → Type 0
AreTwoVersions r flags = AreMembers r flags (λ p q. p.name ≡ q.name)

-- in conflict
abbrev pub AreConflicting : PackageList → List Bool → ℕ → ℕ → Type 0
AreConflicting r flags = AreMembers r flags (AreInConflict r.architecture)

-- a member, and the place of an item of its dependencies that no member meets, both from 0
abbrev pub IsUnmetAt : PackageList → List Bool → (number place : ℕ) → Type 0
IsUnmetAt r flags number place = IsMemberAnd r.packages flags number
    (λ p. IsSomeAnd (slice_get p.depends place)
    (λ item. ¬ installation.IsMet r.architecture (members_of r.packages flags) item))

-- an essential package whose name no member has
abbrev pub IsMissing : PackageList → List Bool → ℕ → Type 0
IsMissing r flags number = IsPackageAnd r.packages number
    (λ p. (p.essential ≡ true) × (¬ Any (λ q. q.name ≡ p.name) (members_of r.packages flags)))

-- What `health` answers of the members, at mode essential or plain.
abbrev pub IsHealth : PackageList → Bool → List Bool → Health → Type 0
IsHealth r essential flags Healthy = installation.Healthy r.architecture
    (installation.required_names essential r.packages) r.packages (members_of r.packages flags)
IsHealth r essential flags (TwoVersions first second) = IsLeastPair (AreTwoVersions r flags) first second
IsHealth r essential flags (Unmet number place) = IsNoPair (AreTwoVersions r flags)
    × IsLeastPair (IsUnmetAt r flags) number place
IsHealth r essential flags (Conflict first second) = IsNoPair (AreTwoVersions r flags) × IsNoPair (IsUnmetAt r flags)
    × IsLeastPair (AreConflicting r flags) first second
IsHealth r essential flags (EssentialMissing number) =
    IsNoPair (AreTwoVersions r flags) × IsNoPair (IsUnmetAt r flags) × IsNoPair (AreConflicting r flags)
    × (essential ≡ true) × IsLeast (IsMissing r flags) number
