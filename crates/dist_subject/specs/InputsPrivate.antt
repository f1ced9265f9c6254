-- Serves private contracts: the steps by which the input clauses are made.
use Rattle.std.specs.Prelude.{◌≤◌, Bool, length}
use Rattle.dist_outside.specs.declared.limits.Limits.{Limits}
use Rattle.dist_outside.specs.declared.trouble.What.{What}
use Rattle.dist_outside.specs.declared.trouble.What.TheVariants.{Clauses, Literals}
use Rattle.dist_repo.specs.Order.{IsLatestOf}
use Rattle.dist_repo.specs.PackageList.{PackageList}
use Rattle.dist_space.specs.Space.{SpaceView}
use Rattle.dist_space.specs.SpaceOf.{IsSpaceOf}
use Rattle.dist_space_clauses.specs.SpaceSet as futures

-- the space of the newest packages at a mode, within the limit of variables
pub record IsSpaceWithin (r : PackageList) (essential : Bool) (limits : Limits) (space : SpaceView) : Type 0 where
  pub newest : IsLatestOf r space.repository
  pub is_space : IsSpaceOf space.repository essential space
  pub variables : length space.meanings ≤ limits.variables

-- the number that the clauses of a space pass first
abbrev pub PassesSpace : SpaceView → Limits → What → Type 0
PassesSpace s limits Clauses = futures.PassesClauses s limits.clauses limits.literals
PassesSpace s limits Literals = futures.PassesLiterals s limits.clauses limits.literals
PassesSpace s limits what = ⊥
