-- What is found while broken packages are gathered. No public clause cites it.
use Rattle.std.specs.Prelude.{◌≡◌, ◌↔◌, ℕ, ◌<◌, List, Option, Some, Contains, IsSomeAnd, slice_get}
use Rattle.dist_repo.specs.PackageList.{IsPackageAnd}
use Rattle.dist_archive.specs.Archive.{ArchiveView}
use Rattle.dist_cert.specs.declared.records.Claim.{Claim}
use Rattle.dist_journal.specs.Broken.{IsMovedInto, Lists}

-- by a table of clusters, a cluster has moved into a class
abbrev pub IsMovedAt : List (Option ℕ) → ℕ × ℕ → Type 0
IsMovedAt moved pair = slice_get moved pair.0 ≡ Some (Some pair.1)

-- for each cluster the class into which it has moved, if it has
abbrev pub AreMoved : ArchiveView → List (Option ℕ) → Type 0
AreMoved v moved = (cluster class : ℕ) → IsMovedAt moved (cluster, class) ↔ IsMovedInto v.space v.packages cluster class

-- a cluster and a package are noted for one of some pairs
abbrev pub IsNotedPair : List (Option ℕ) → (number : ℕ) → (pair noted : ℕ × ℕ) → Type 0
IsNotedPair moved number pair noted = IsMovedAt moved pair × ((pair.0, number) ≡ noted)

-- for one of the first pairs, so many of them
abbrev pub IsNotedUpTo : List (Option ℕ) → (number : ℕ) → List (ℕ × ℕ) → (place : ℕ) → (noted : ℕ × ℕ) → Type 0
IsNotedUpTo moved number pairs place noted = (k : ℕ) × (k < place)
    × IsSomeAnd (slice_get pairs k) (λ pair. IsNotedPair moved number pair noted)

-- for the claim on a package
abbrev pub IsNoted : ArchiveView → List (Option ℕ) → (number : ℕ) → Claim → (noted : ℕ × ℕ) → Type 0
IsNoted v moved number claim noted = (noted.1 ≡ number)
    × IsPackageAnd v.space.repository.packages number (Contains v.packages)
    × ((class : ℕ) × IsMovedAt moved (noted.0, class) × Lists claim noted.0 class)

-- for the claim on one of the first packages, so many of them
abbrev pub AreNoted : ArchiveView → List (Option ℕ) → List Claim → (number : ℕ) → (noted : List (ℕ × ℕ)) → Type 0
AreNoted v moved made number noted = (pair : ℕ × ℕ) → Contains noted pair ↔ ((pair.1 < number)
    × IsSomeAnd (slice_get made pair.1) (λ claim. IsNoted v moved pair.1 claim pair))
