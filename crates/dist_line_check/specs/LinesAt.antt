-- How the clauses and the open question that are kept of the lines before a line stand to these lines.
use Rattle.std.specs.Prelude.{◌≡◌, ◌↔◌, ℕ, List, ◌∷◌, ◌++◌, Option, Some, None, length}
use Rattle.dist_clause.specs.Formula.{Literal, IsModel}
use Rattle.dist_derive.specs.ClauseLog.{ClauseLog}
use Rattle.dist_cert.specs.declared.faults.CertCause.{CertCause}
use Rattle.dist_cert.specs.declared.records.CertRecord.{CertRecord}
use Rattle.dist_cert.specs.declared.records.Header.{Header}
use Rattle.dist_cert.specs.Groups.{derived, IsOpen, HasOpenQuestion}
use Rattle.dist_cert.specs.LineRules.{HasRecordFault}
use Rattle.dist_cert.specs.Rising.{is_among}
use Rattle.dist_cert.specs.Subject.{Matter}
use Rattle.dist_line_check.specs.Future.{StandsForFuture}
use Rattle.dist_line_check.specs.Checker.{QuestionView}
use Rattle.dist_line_check.specs.declared.future.FutureClauses.{FutureClauses}

-- no record has a fault behind those before it
abbrev pub AreRight : Matter → Header → List CertRecord → Type 0
AreRight matter h steps = (before : List CertRecord) (step : CertRecord) (after : List CertRecord)
    → steps ≡ before ++ step ∷ after
    → (cause : CertCause) → ¬ HasRecordFault matter h before step cause

-- the open question, with the clauses before its line
abbrev pub IsQuestionOf : List (List Literal) → List CertRecord → Option QuestionView → Type 0
IsQuestionOf inputs before None = ¬ HasOpenQuestion before
IsQuestionOf inputs before (Some q) = (earlier since : List CertRecord) × IsOpen before earlier q.assumptions since
    × (q.last ≡ length (inputs ++ derived earlier))

-- the sets of variables that stand for a future are those that make the clauses true that say what a future is
abbrev pub AreFuturesBy : Matter → FutureClauses → Type 0
AreFuturesBy matter future = (members : List ℕ)
    → matter.IsFuture members ↔ StandsForFuture future (is_among members) matter.inputs

-- a set of variables stands for a future and is healthy exactly where the input clauses are true of it
abbrev pub JudgesMembers : Matter → Type 0
JudgesMembers matter = (members : List ℕ)
    → (matter.IsFuture members × matter.IsHealthy members) ↔ IsModel (is_among members) matter.inputs

-- The clauses that are kept are the input clauses and those of the derived lines.
pub record IsLogOf (matter : Matter) (before : List CertRecord) (log : ClauseLog) : Type 0 where
  pub clauses : log.clauses ≡ matter.inputs ++ derived before
  pub inputs_are : log.inputs ≡ length matter.inputs
  pub variables : log.variables ≡ matter.variables
