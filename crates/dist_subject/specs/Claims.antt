-- When claims on strong dependencies are of a repository, whatever they say of it. Of pairs of a cluster and a class
-- nothing is said here.
use Rattle.std.specs.Prelude.{◌≡◌, ◌≢◌, ℕ, ◌<◌, List, All, Some, length, slice_get}
use Rattle.dist_cert.specs.declared.records.Claim.{Claim}
use Rattle.dist_cert.specs.declared.records.Claim.TheVariants.{Strong}

-- the packages that a claim names are packages of the repository, and other ones than its own
abbrev pub NamesOthers : ℕ → ℕ → Claim → Type 0
NamesOthers packages number (Strong on undecided) = All (λ q. (q < packages) × (q ≢ number)) on
    × All (λ q. (q < packages) × (q ≢ number)) undecided
NamesOthers packages number claim = Unit {0}

-- There is one claim for each package, in order, and each names packages of the repository.
pub record AreStrongClaimsOf (packages : ℕ) (made : List Claim) : Type 0 where
  pub one_each : length made ≡ packages
  pub named : (number : ℕ) (claim : Claim) → slice_get made number ≡ Some claim → NamesOthers packages number claim
