-- Worked example: a certificate of ten lines is accepted as a whole. The archive has `a`, which depends on `b`, and
-- `b`.
use Rattle.std.specs.Prelude.{ℕ, ◌≤◌, true, false, List, [], ◌∷◌, Contains, codes}
use Rattle.dist_outside.specs.declared.limits.Limits.{Limits}
use Rattle.dist_clause.specs.Formula.{literal}
use Rattle.dist_cert.specs.declared.records.CertKind.TheVariants as kinds
use Rattle.dist_cert.specs.declared.records.Claim.{Claim}
use Rattle.dist_cert.specs.declared.records.Claim.TheVariants as claims
use Rattle.dist_cert.specs.declared.records.Header.{Header}
use Rattle.dist_cert.specs.Subject.{Matter}
use Rattle.dist_cert.specs.Accepted.{Accepted}
use Rattle.dist_cert.specs.TextExamples.{ended_lines}

-- Variable 1 is a, variable 2 is b, and the input clause is `-1 2`. A set of packages is healthy where b is with a.
abbrev pub two : Matter
two = record {
  packages = 2;
  variables = 2;
  inputs = (literal 1 false ∷ literal 2 true ∷ []) ∷ [];
  clusters = [];
  present = λ p. p;
  new = λ p class. 0;
  at = λ cluster class. 0;
  IsFuture = λ members. Unit {0};
  IsHealthy = λ members. Contains members 1 → Contains members 2;
}

abbrev pub header : Header
header = record { kind = kinds.Strong; limit = 10000; packages = 2; variables = 2; clauses = 1; essential = false }

-- the certificate
abbrev pub ten_lines : List ℕ
ten_lines = ended_lines (
    codes "distfuture-certificate 1 strong plain 10000 2 2 1"
    ∷ codes "q 1"
    ∷ codes "m 1 2"
    ∷ codes "q 1 -2"
    ∷ codes "f 1"
    ∷ codes "s 1 1 0 2 0"
    ∷ codes "q 2"
    ∷ codes "m 2"
    ∷ codes "s 2 2 0 0"
    ∷ codes "e"
    ∷ []
    )

-- a depends strongly on b, and b on nothing
abbrev pub on_b_and_on_nothing : List Claim
on_b_and_on_nothing = claims.Strong (1 ∷ []) [] ∷ claims.Strong [] [] ∷ []

-- It is accepted, where a line may have as many bytes as its longest one. The law `examples_are_accepted` says that it
-- is so.
abbrev pub TenLinesAreAccepted : Type 0
TenLinesAreAccepted = (limits : Limits) → 50 ≤ limits.record_line
    → Accepted two limits ten_lines header on_b_and_on_nothing
