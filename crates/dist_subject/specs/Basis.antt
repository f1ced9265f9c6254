-- What certificates are judged by, for each kind and mode: the packages as they are, by the clauses of the present, or
-- their futures, by the clauses of the space of the futures. And when a text is accepted or refused over packages.
use Rattle.std.specs.Prelude.{◌≡◌, ℕ, All, Bool, List}
use Rattle.dist_outside.specs.declared.limits.Limits.{Limits}
use Rattle.dist_version.specs.Spelling.{IsVersion}
use Rattle.dist_clause.specs.Formula.{Literal}
use Rattle.dist_repo.specs.Order.{IsLatestOf}
use Rattle.dist_repo.specs.PackageList.{PackageList}
use Rattle.dist_now.specs.PresentClauses.{ArePresentClauses}
use Rattle.dist_classes.specs.Atoms.{AreBoundsVersions}
use Rattle.dist_space.specs.Space.{SpaceView}
use Rattle.dist_space.specs.SpaceOf.{IsSpaceOf}
use Rattle.dist_space_clauses.specs.SpaceClauses.{AreSpaceClauses}
use Rattle.dist_cert.specs.declared.faults.CertFault.{CertFault}
use Rattle.dist_cert.specs.declared.records.CertKind.{CertKind}
use Rattle.dist_cert.specs.declared.records.CertKind.TheVariants as kinds
use Rattle.dist_cert.specs.declared.records.Claim.{Claim}
use Rattle.dist_cert.specs.declared.records.Header.{Header}
use Rattle.dist_cert.specs.Accepted.{Accepted}
use Rattle.dist_cert.specs.Form.{HasHeaderForm}
use Rattle.dist_cert.specs.FileLines.{BeginsWith, IsTooLong}
use Rattle.dist_cert.specs.Refusal.{Refusal}
use Rattle.dist_cert.specs.Subject.{Matter}
use Rattle.dist_subject.specs.Later.{later_matter}
use Rattle.dist_subject.specs.Present.{present_matter}

-- the clauses of the present at a mode, or a space of futures and its clauses
pub data Basis : Type 0 where
  Today : (essential : Bool) → (inputs : List (List Literal)) → Basis
  Later : (space : SpaceView) → (inputs : List (List Literal)) → Basis

-- what is spoken of, of these packages
abbrev pub matter_of : PackageList → Basis → Matter
matter_of r (Today essential inputs) = present_matter r essential inputs
matter_of r (Later space inputs) = later_matter space inputs

-- the clauses are those of this space, which is the one of the newest packages at the mode
pub record IsLaterOf (r : PackageList) (essential : Bool) (space : SpaceView) (inputs : List (List Literal)) : Type 0
  where
    pub newest : IsLatestOf r space.repository
    pub is_space : IsSpaceOf space.repository essential space
    pub are_clauses : AreSpaceClauses space inputs

-- Certificates of kind strong are judged by the present of all packages, those of the two other kinds by the futures of
-- the newest of each name.
abbrev pub IsBasisOf : PackageList → CertKind → Bool → Basis → Type 0
IsBasisOf r kinds.Strong essential (Today mode inputs) = (mode ≡ essential) × ArePresentClauses r essential inputs
IsBasisOf r kinds.Outdated essential (Later space inputs) = IsLaterOf r essential space inputs
IsBasisOf r kinds.Challenged essential (Later space inputs) = IsLaterOf r essential space inputs
IsBasisOf r kind essential basis = ⊥

-- of the newest packages the versions are versions, and so are those of their bounds, as where a repository was read
abbrev pub HaveVersions : PackageList → Type 0
HaveVersions r = (latest : PackageList) → IsLatestOf r latest
    → All (λ p. IsVersion p.version) latest.packages × AreBoundsVersions latest

-- The text is accepted over the packages with this header and these claims: it is judged by what certificates of its
-- kind and mode are judged by.
abbrev pub IsAccepted : PackageList → Limits → List ℕ → Header → List Claim → Type 0
IsAccepted r limits text h made = (basis : Basis) × IsBasisOf r h.kind h.essential basis
    × Accepted (matter_of r basis) limits text h made

-- A text with a first line that is not too long and has the form is judged by what certificates of that kind and mode
-- are; any other text by whatever.
abbrev pub IsJudgedBy : PackageList → Limits → List ℕ → Basis → Type 0
IsJudgedBy r limits text basis = (h : Header) (line more : List ℕ) → BeginsWith text line more → HasHeaderForm line h
    → (¬ IsTooLong limits text) → IsBasisOf r h.kind h.essential basis

-- The text is refused over the packages with this fault.
abbrev pub IsRefused : PackageList → Limits → List ℕ → CertFault → Type 0
IsRefused r limits text fault = (basis : Basis) × IsJudgedBy r limits text basis
    × Refusal (matter_of r basis) limits text fault
