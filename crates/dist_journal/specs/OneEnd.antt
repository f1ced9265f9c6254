-- A journal over an archive is followed to one end: to its last step, or to its first fault, and never to both.
use Rattle.std.specs.Prelude.{◌≡◌, ℕ, List}
use Rattle.dist_repo.specs.declared.package.Package.{Package}
use Rattle.dist_space.specs.Space.{SpaceView}
use Rattle.dist_archive.specs.Same.{AreSame}
use Rattle.dist_journal.specs.Follow.{IsFollowed, IsStopped}
use Rattle.dist_journal.specs.declared.fault.FollowError.{FollowError}

-- Its steps leave the same packages, it is stopped for one error at most, and it is not both followed and stopped.
pub record HasOneEnd (s : SpaceView) (limit : ℕ) (journal : List ℕ) (old : List Package) : Type 0 where
  pub one_archive : (new other : List Package) (count many : ℕ) → IsFollowed s limit journal old new count
      → IsFollowed s limit journal old other many → AreSame new other × (many ≡ count)
  pub one_error : (new other : List Package) (error also : FollowError) → IsStopped s limit journal old new error
      → IsStopped s limit journal old other also → also ≡ error
  pub never_both : (new other : List Package) (count : ℕ) (error : FollowError)
      → IsFollowed s limit journal old new count → ¬ IsStopped s limit journal old other error
