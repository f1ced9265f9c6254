-- The input clauses of what certificates are judged by, made within the limits, and why there are none.
use Rattle.std.specs.Prelude.{◌≡◌, Bool}
use Rattle.dist_clause.specs.ClauseList.{ClauseList}
use Rattle.dist_clause.specs.declared.clause_set.PushError.{PushError}
use Rattle.dist_clause.specs.declared.clause_set.PushError.TheVariants.{TooManyClauses, TooManyLiterals}
use Rattle.dist_clause.specs.declared.clause_set.PushError.TheVariants as push
use Rattle.dist_outside.specs.declared.limits.Limits.{Limits}
use Rattle.dist_outside.specs.declared.trouble.What.TheVariants.{Clauses, Literals}
use Rattle.dist_outside.specs.declared.trouble.WorkError.{WorkError}
use Rattle.dist_outside.specs.declared.trouble.WorkError.TheVariants.{NoMemory, TooLarge}
use Rattle.dist_repo.specs.PackageList.{PackageList}
use Rattle.dist_cert.specs.declared.records.CertKind.{CertKind}
use Rattle.dist_subject.specs.Basis.{Basis, IsBasisOf, matter_of}
use Rattle.dist_subject.specs.Limited.{AreInputsWithin}

-- The set holds the input clauses of what certificates of a kind and mode are judged by, which keeps the limits.
pub record AreInputsOf (r : PackageList) (kind : CertKind) (essential : Bool) (limits : Limits) (basis : Basis)
    (set : ClauseList) : Type 0 where
  pub is_basis : IsBasisOf r kind essential basis
  pub kept : AreInputsWithin limits r basis
  pub clauses : set.clauses ≡ (matter_of r basis).inputs
  pub variables : set.variables ≡ (matter_of r basis).variables

-- why work stops where clauses pass a limit
abbrev pub large_by : PushError → WorkError
large_by TooManyClauses = TooLarge Clauses
large_by TooManyLiterals = TooLarge Literals
large_by push.NoMemory = NoMemory
