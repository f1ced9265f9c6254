-- Where newest versions are one, and the space of packages is, a file has one space.
use Rattle.std.proofs.Common.{◌≡◌, Bool, subst}
use Rattle.dist_repo.specs.Order.{IsLatestOf}
use Rattle.dist_repo.specs.PackageList.{PackageList}
use Rattle.dist_space.specs.Space.{SpaceView}
use Rattle.dist_space.specs.SpaceOf.{IsSpaceOf}
use Rattle.dist_commands.specs.SpaceStage.{IsSpaceOfFile}

-- each file has its newest versions once
abbrev pub HaveOneNewest : Type 0
HaveOneNewest = (r latest other : PackageList) → IsLatestOf r latest → IsLatestOf r other → other ≡ latest

-- packages have one space at a mode
abbrev pub HaveSpaceOnce : Type 0
HaveSpaceOnce = (r : PackageList) (essential : Bool) (s other : SpaceView) → IsSpaceOf r essential s
    → IsSpaceOf r essential other → other ≡ s

-- and a file does
abbrev pub HaveOneSpace : Type 0
HaveOneSpace = (r : PackageList) (essential : Bool) (s other : SpaceView) → IsSpaceOfFile essential r s
    → IsSpaceOfFile essential r other → other ≡ s

-- as the laws of newest versions and of spaces say
pub one-space : HaveOneNewest → HaveSpaceOnce → HaveOneSpace
one-space newest spaces r essential s other is is' =
    spaces s.repository essential s other is.1
    (subst (λ (x : PackageList). IsSpaceOf x essential other) (newest r s.repository other.repository is.0 is'.0) is'.1)
