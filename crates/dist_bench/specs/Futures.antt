-- The space of the futures of a Packages file, at mode plain, and its number of variables.
use Rattle.std.specs.Prelude.{◌≡◌, ◌⊎◌, ℕ, ◌≤◌, false, List, codes, length}
use Rattle.dist_base.specs.declared.TheConstants.{MAX_VARIABLES}
use Rattle.dist_repo.specs.PackageList.{PackageList}
use Rattle.dist_space.specs.Space.{SpaceView}
use Rattle.dist_space.specs.SpaceOf.{IsSpaceOf, HasMoreVariables}
use Rattle.dist_bench.specs.Counted.{counted}
use Rattle.dist_bench.specs.Packages.{HasNoPackages, OfNewest}
use Rattle.dist_bench.specs.declared.error.JobError.{JobError}
use Rattle.dist_bench.specs.declared.error.JobError.TheVariants.{TooManyVariables}

-- the space of a repository, with no more variables than the stated limit
pub record IsSpaceWithin (r : PackageList) (space : SpaceView) : Type 0 where
  pub is_space : IsSpaceOf r false space
  pub within : length space.meanings ≤ MAX_VARIABLES

-- the newest packages of the text, a Packages file, have such a space, with a property
abbrev pub OfSpace : (text : List ℕ) → (SpaceView → Type 0) → Type 0
OfSpace text P = OfNewest text (λ r. (space : SpaceView) × IsSpaceWithin r space × P space)

-- the text is no Packages file, or the space of its newest packages has more variables than the stated limit
abbrev pub HasNoSpace : (text : List ℕ) → JobError → Type 0
HasNoSpace text error = HasNoPackages text error
    ⊎ ((error ≡ TooManyVariables) × OfNewest text (λ r. HasMoreVariables r false MAX_VARIABLES))

-- the answer of `count-future-variables`
abbrev pub IsVariablesText : (text answer : List ℕ) → Type 0
IsVariablesText text answer = OfSpace text (λ space. answer ≡ counted (length space.meanings) (codes " variables\n"))
