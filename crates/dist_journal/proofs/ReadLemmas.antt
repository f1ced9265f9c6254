-- What is wrong with the block of an entry.
use Rattle.std.proofs.Common.{◌≡◌, ℕ, List, subst, sym}
use Rattle.dist_base.specs.ListLaws.{any-at}
use Rattle.dist_repo.specs.declared.package.Package.{Package}
use Rattle.dist_space.specs.Space.{SpaceView}
use Rattle.dist_future.specs.Future.{IsTaken}
use Rattle.dist_archive.specs.Moved.{IsClusterNamed}
use Rattle.dist_journal.specs.Faults.{BringsBlock, HasFault, IsEntryError}
use Rattle.dist_journal.specs.FollowPrivate.{IsBlockError}
use Rattle.dist_journal.specs.Journal.{Entry}
use Rattle.dist_journal.specs.declared.fault.FollowError.{FollowError}
use Rattle.dist_journal.specs.declared.fault.FollowError.TheVariants.{Bad, TooMany, NoMemory}

pub block-fault : (s : SpaceView) (limit : ℕ) (archive : List Package) (entry : Entry) (error : FollowError) → BringsBlock s entry.line
    → IsBlockError limit entry.number entry.block error → IsEntryError s limit archive entry error
block-fault s limit archive entry (Bad line fault) brings is = subst (HasFault s limit archive entry line) (sym is.0) (brings, is.1)
block-fault s limit archive entry TooMany brings is = (brings, is)
block-fault s limit archive entry NoMemory brings is = absurd is

-- the name of a cluster is that of a package of the repository
pub named-taken : (s : SpaceView) (name : List ℕ) (cluster : ℕ) → IsClusterNamed s name cluster → IsTaken s.repository name
named-taken s name cluster named =
    any-at (λ (q : Package). q.name ≡ name) s.repository.packages named.1.member named.0 named.1.is named.2
