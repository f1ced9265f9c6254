-- Worked example: the certificate of the empty archive is accepted as a whole.
use Rattle.std.specs.Prelude.{ℕ, ◌≤◌, false, List, [], ◌∷◌, codes}
use Rattle.dist_outside.specs.declared.limits.Limits.{Limits}
use Rattle.dist_cert.specs.declared.records.CertKind.TheVariants as kinds
use Rattle.dist_cert.specs.declared.records.Header.{Header}
use Rattle.dist_cert.specs.Subject.{Matter}
use Rattle.dist_cert.specs.Accepted.{Accepted}
use Rattle.dist_cert.specs.TextExamples.{ended_lines}

-- no package, so no variable and no clause; no packages are healthy
abbrev pub nothing : Matter
nothing = record {
  packages = 0;
  variables = 0;
  inputs = [];
  clusters = [];
  present = λ p. p;
  new = λ p class. 0;
  at = λ cluster class. 0;
  IsFuture = λ members. Unit {0};
  IsHealthy = λ members. Unit {0};
}

abbrev pub header : Header
header = record { kind = kinds.Strong; limit = 10000; packages = 0; variables = 0; clauses = 0; essential = false }

-- the certificate
abbrev pub two_lines : List ℕ
two_lines = ended_lines (codes "distfuture-certificate 1 strong plain 10000 0 0 0" ∷ codes "e" ∷ [])

-- It is accepted and claims nothing, where a line may have as many bytes as its longest one. The law
-- `examples_are_accepted` says that it is so.
abbrev pub EmptyIsAccepted : Type 0
EmptyIsAccepted = (limits : Limits) → 50 ≤ limits.record_line → Accepted nothing limits two_lines header []
