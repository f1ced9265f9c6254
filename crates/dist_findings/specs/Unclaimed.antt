-- Files without claims: their lines are judged as those of a certificate by some clauses, but that any claim is wrong,
-- and the end comes once an answer is decided.
use Rattle.std.specs.Prelude.{◌≡◌, ℕ, true, false, List, []}
use Rattle.dist_clause.specs.Formula.{Literal, IsModel}
use Rattle.dist_cert.specs.declared.faults.CertCause.{CertCause}
use Rattle.dist_cert.specs.declared.faults.CertCause.TheVariants.{WrongClaim, Incomplete}
use Rattle.dist_cert.specs.declared.records.CertKind.TheVariants.{Outdated}
use Rattle.dist_cert.specs.declared.records.CertRecord.{CertRecord}
use Rattle.dist_cert.specs.declared.records.CertRecord.TheVariants.{End}
use Rattle.dist_cert.specs.declared.records.Header.{Header}
use Rattle.dist_cert.specs.Groups.{is_claim}
use Rattle.dist_cert.specs.LineRules.{HasRecordFault}
use Rattle.dist_cert.specs.Rising.{is_among}
use Rattle.dist_cert.specs.Subject.{Matter}

-- clauses alone: an installation is a set of variables of which they are true
abbrev pub clauses_alone : ℕ → List (List Literal) → Matter
clauses_alone variables inputs = record {
  packages = 0;
  variables = variables;
  inputs = inputs;
  clusters = [];
  present = λ p. p;
  new = λ p class. 0;
  at = λ cluster class. 0;
  IsFuture = λ members. Unit {0};
  IsHealthy = λ members. IsModel (is_among members) inputs;
}

-- what the lines take from a first line: the limit
abbrev pub limit_alone : ℕ → Header
limit_alone limit = record {
  kind = Outdated;
  essential = false;
  limit = limit;
  packages = 0;
  variables = 0;
  clauses = 0;
}

-- the end comes before the answer is decided
abbrev pub EndsEarly : (IsDecided : List CertRecord → Type 0) → List CertRecord → CertRecord → Type 0
EndsEarly IsDecided before End = ¬ IsDecided before
EndsEarly IsDecided before step = ⊥

-- The line has a fault of this cause behind others.
abbrev pub HasUnclaimedFault : (IsDecided : List CertRecord → Type 0) → ℕ → List (List Literal) → (limit : ℕ)
    → List CertRecord → CertRecord → CertCause → Type 0
HasUnclaimedFault IsDecided variables inputs limit before step Incomplete = EndsEarly IsDecided before step
HasUnclaimedFault IsDecided variables inputs limit before step WrongClaim = is_claim step ≡ true
HasUnclaimedFault IsDecided variables inputs limit before step cause = (is_claim step ≡ false)
    × HasRecordFault (clauses_alone variables inputs) (limit_alone limit) before step cause
