-- The repository of a Packages file.
use Rattle.std.specs.Prelude.{◌≡◌, ℕ, ◌≤◌, List, length, All, Any, Contains}
use Rattle.dist_control.specs.RawStanza.{raw_stanzas}
use Rattle.dist_repo.specs.Order.{IsInOrder}
use Rattle.dist_repo.specs.PackageList.{PackageList}
use Rattle.dist_package.specs.FirstFault.{Read, architecture_of, AreRead}

-- The packages of a file's stanzas, each once, in order of the bytes of their names and then of their versions,
-- with the first architecture that is not `all`. No stanza has a fault, and they are no more than the limit.
pub record IsRepositoryOf (text : List ℕ) (limit : ℕ) (repository : PackageList) : Type 0 where
  pub reads : List Read
  pub read : AreRead (raw_stanzas text) reads
  pub within : length reads ≤ limit
  pub in_order : IsInOrder repository.packages
  pub from_stanzas : All (λ p. Any (λ read. read.package_ ≡ p) reads) repository.packages
  pub all_stanzas : All (λ read. Contains repository.packages read.package_) reads
  pub architecture : repository.architecture ≡ architecture_of reads
