-- When there is a space of a repository within a number of variables.
use Rattle.std.specs.Prelude.{◌≡◌, ℕ, ◌<◌, Bool, length}
use Rattle.dist_repo.specs.PackageList.{PackageList}
use Rattle.dist_space.specs.Space.{IsSpace, SpaceView}

-- the space of a repository at a mode
pub record IsSpaceOf (r : PackageList) (essential : Bool) (s : SpaceView) : Type 0 where
  pub space : IsSpace s
  pub repository : s.repository ≡ r
  pub essential_is : s.essential ≡ essential

-- the space has more variables than the limit
abbrev pub HasMoreVariables : PackageList → Bool → ℕ → Type 0
HasMoreVariables r essential variables = (s : SpaceView) × IsSpaceOf r essential s × (variables < length s.meanings)
