-- What contracts see of an archive: the space of its repository, and the packages that it holds, in some order.
use Rattle.std.specs.Prelude.{◌≡◌, ℕ, ◌<◌, List, Contains, length}
use Rattle.dist_repo.specs.declared.package.Package.{Package}
use Rattle.dist_space.specs.Space.{SpaceView}
use Rattle.dist_archive.specs.declared.step.Step.{Step}
use Rattle.dist_archive.specs.declared.step.Step.TheVariants.{Upload, Removal, NewName}

pub record ArchiveView : Type 0 where
  pub space : SpaceView
  pub packages : List Package

-- p is the package of a name that is held
abbrev pub IsHeldAs : List Package → (name : List ℕ) → Package → Type 0
IsHeldAs packages name p = Contains packages p × (p.name ≡ name)

-- how many packages a step brings
abbrev pub brought : Step → ℕ
brought (Upload cluster version block) = length block.packages
brought (Removal name) = 0
brought (NewName block) = length block.packages

-- the step names a cluster that there is, if it names one
abbrev pub IsInRange : SpaceView → Step → Type 0
IsInRange s (Upload cluster version block) = cluster < length s.clusters.members
IsInRange s step = Unit {0}
