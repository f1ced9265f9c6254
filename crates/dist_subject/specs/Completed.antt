-- Certificates that keep the numbers.
use Rattle.std.specs.Prelude.{◌≡◌, ℕ, List}
use Rattle.dist_outside.specs.declared.limits.Limits.{Limits}
use Rattle.dist_repo.specs.PackageList.{PackageList}
use Rattle.dist_cert.specs.declared.records.Claim.{Claim}
use Rattle.dist_cert.specs.declared.records.Header.{Header}
use Rattle.dist_cert.specs.Accepted.{claims_in}
use Rattle.dist_judge.specs.Judging as judging
use Rattle.dist_subject.specs.Certificates.{certificates_of}

-- the text is accepted with this header and these claims, and keeps the numbers
abbrev pub IsCompleted : PackageList → Limits → List ℕ → Header → List Claim → Type 0
IsCompleted r limits text h made =
    judging.IsCompleted (certificates_of r) limits text h (λ basis steps. made ≡ claims_in steps)
