-- When a text is accepted as a certificate, and what it claims.
use Rattle.std.specs.Prelude.{◌≡◌, ℕ, ◌-◌, List, [], ◌∷◌, map}
use Rattle.std.specs.List.{flat_map}
use Rattle.dist_outside.specs.declared.limits.Limits.{Limits}
use Rattle.dist_cert.specs.declared.records.CertRecord.{CertRecord}
use Rattle.dist_cert.specs.declared.records.CertRecord.TheVariants as lines
use Rattle.dist_cert.specs.declared.records.Claim.{Claim}
use Rattle.dist_cert.specs.declared.records.Claim.TheVariants as claims
use Rattle.dist_cert.specs.declared.records.Header.{Header}
use Rattle.dist_cert.specs.Subject.{Matter}
use Rattle.dist_cert.specs.FileLines.{IsWhole}
use Rattle.dist_cert.specs.Refusal.{certificate_rules}

-- ---- what is claimed, with numbers from 0

abbrev pub from_zero : List ℕ → List ℕ
from_zero numbers = map (λ n. n - 1) numbers

abbrev pub pairs_from_zero : List (ℕ × ℕ) → List (ℕ × ℕ)
pairs_from_zero pairs = map (λ pair. (pair.0 - 1, pair.1 - 1)) pairs

-- the claim of a line, and nothing for a line that is no claim
abbrev pub claim_in : CertRecord → List Claim
claim_in (lines.NotInstallable p) = claims.Uninstallable ∷ []
claim_in (lines.Unknown p) = claims.Unknown ∷ []
claim_in (lines.Strong p installations on undecided) = claims.Strong (from_zero on) (from_zero undecided) ∷ []
claim_in (lines.Outdated p) = claims.Outdated ∷ []
claim_in (lines.Alive p installation) = claims.Alive ∷ []
claim_in (lines.Challenged p installations by undecided) =
    claims.Challenged (pairs_from_zero by) (pairs_from_zero undecided) ∷ []
claim_in step = []

-- the claims of the lines, in order
abbrev pub claims_in : List CertRecord → List Claim
claims_in steps = flat_map claim_in steps

-- ---- acceptance

-- the text is the lines of this header and these records, without a fault, and none is missing behind the last
abbrev pub IsAcceptedAs : Matter → Limits → List ℕ → Header → List CertRecord → Type 0
IsAcceptedAs matter limits text h steps = IsWhole (certificate_rules matter) limits text h steps

-- The text is accepted with this header and these claims, one for each package in order.
abbrev pub Accepted : Matter → Limits → List ℕ → Header → List Claim → Type 0
Accepted matter limits text h made = (steps : List CertRecord) × IsAcceptedAs matter limits text h steps
    × (made ≡ claims_in steps)
