-- The space of futures that comes with an accepted certificate.
use Rattle.std.specs.Prelude.{◌≡◌, Bool, IsTrue, List, None, Option, Some, Result, Ok, Err}
use Rattle.dist_outside.specs.declared.limits.Limits.{Limits}
use Rattle.dist_outside.specs.declared.trouble.WorkError.{WorkError}
use Rattle.dist_clause.specs.Formula.{Literal}
use Rattle.dist_repo.specs.PackageList.{PackageList}
use Rattle.dist_space.specs.Space.{SpaceView}
use Rattle.dist_cert.specs.declared.records.CertKind.{CertKind}
use Rattle.dist_cert.specs.declared.records.CertKind.TheVariants.{Strong}
use Rattle.dist_subject.specs.Basis.{IsBasisOf, Later}
use Rattle.dist_subject.specs.Limited.{AreInputsWithin}
use Rattle.dist_check.specs.declared.verdict.Judged.{Judged}
use Rattle.dist_check.specs.declared.verdict.Verdict.{Verdict}
use Rattle.dist_check.specs.declared.verdict.Verdict.TheVariants.{Accepted, Refused}

-- With its clauses the space is what certificates of this kind and mode are judged by, and keeps the numbers.
pub record IsJudgedBySpace (r : PackageList) (limits : Limits) (kind : CertKind) (essential : Bool) (space : SpaceView)
    : Type 0 where
  pub inputs : List (List Literal)
  pub is_basis : IsBasisOf r kind essential (Later space inputs)
  pub within : AreInputsWithin limits r (Later space inputs)

-- It is given where it is wanted and the kind is outdated or challenged, and nowhere else.
abbrev pub IsSpaceGiven : PackageList → Limits → (wanted : Bool) → CertKind → (essential : Bool) → Option SpaceView
    → Type 0
IsSpaceGiven r limits wanted kind essential (Some space) =
    IsTrue wanted × IsJudgedBySpace r limits kind essential space
IsSpaceGiven r limits wanted kind essential None = IsTrue wanted → kind ≡ Strong

-- an accepted certificate comes with the space of its kind and mode, a refused one with none
abbrev pub ComesWithSpace : PackageList → Limits → (wanted : Bool) → Verdict → Option SpaceView → Type 0
ComesWithSpace r limits wanted (Accepted h made) given = IsSpaceGiven r limits wanted h.kind h.essential given
ComesWithSpace r limits wanted (Refused fault) given = given ≡ None

-- the answer without the space
abbrev pub verdict_of : Result Judged WorkError → Result Verdict WorkError
verdict_of (Ok judged) = Ok judged.verdict
verdict_of (Err error) = Err error
