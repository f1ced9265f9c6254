-- What a builder holds: packages, each with the line that it came with, in the order of packages.
use Rattle.std.specs.Prelude.{◌≡◌, ◌≢◌, ℕ, ◌<◌, ◌^◌, List, Any, length, map}
use Rattle.std.specs.List.Sorted.{IsStrictlySortedBy}
use Rattle.dist_repo.specs.Order.{package_cmp, IsSamePackage}
use Rattle.dist_repo.specs.declared.package.Package.{Package}
use Rattle.dist_repo.specs.declared.builder.AddError.{AddError}
use Rattle.dist_repo.specs.declared.builder.AddError.TheVariants.{Clash, NoMemory}

abbrev pub Held : Type 0
Held = Package × ℕ

abbrev pub packages_of : List Held → List Package
packages_of held = map (λ h. h.0) held

-- what a builder keeps: the packages strictly rise, and their numbers fit in 32 bits
pub record IsKept (held : List Held) : Type 0 where
  pub sorted : IsStrictlySortedBy package_cmp (packages_of held)
  pub few : length held < 2 ^ 32

-- an equal package is held, all fields and texts as bytes
abbrev pub IsHeld : List Held → Package → Type 0
IsHeld held p = Any (λ h. h.0 ≡ p) held

-- another package of that name and with an equal version is held, and came with this line
abbrev pub IsClashAt : List Held → Package → ℕ → Type 0
IsClashAt held p line = Any (λ h. IsSamePackage h.0 p × (h.0 ≢ p) × (h.1 ≡ line)) held

-- no package of that name and with an equal version is held
abbrev pub IsFree : List Held → Package → Type 0
IsFree held p = ¬ Any (λ h. IsSamePackage h.0 p) held

-- the package that a refusal gives back
abbrev pub returned_package : AddError → Package
returned_package (Clash line p) = p
returned_package (NoMemory p) = p
