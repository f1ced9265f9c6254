-- What is kept of the lines before a line, whatever the kind of file, and what is told of the next one.
use Rattle.std.specs.Prelude.{◌≡◌, ℕ, ◌+◌, ◌<◌, ◌≤◌, Bool, true, false, List, [], ◌∷◌, ◌++◌, Option, Some, None}
use Rattle.std.specs.Prelude.{length, map, nat_lt}
use Rattle.std.specs.List.{list_any}
use Rattle.dist_outside.specs.declared.trouble.WorkError.{WorkError}
use Rattle.dist_outside.specs.declared.trouble.WorkError.TheVariants.{NoMemory}
use Rattle.dist_clause.specs.Formula.{negation, IsModel}
use Rattle.dist_derive.specs.ClauseLog.{ClauseLog, inputs_of}
use Rattle.dist_derive.specs.Follows.{Follows}
use Rattle.dist_derive.specs.New.{AreNewFrom}
use Rattle.dist_cert.specs.declared.faults.CertCause.{CertCause}
use Rattle.dist_cert.specs.declared.faults.CertCause.TheVariants.{OutOfRange, OutOfOrder, UnknownLine, BadLine}
use Rattle.dist_cert.specs.declared.faults.CertCause.TheVariants.{NotAFuture, NotAnInstallation, LimitNotReached}
use Rattle.dist_cert.specs.declared.faults.CertCause.TheVariants.{NotNew}
use Rattle.dist_cert.specs.declared.records.CertRecord.{CertRecord}
use Rattle.dist_cert.specs.declared.records.CertRecord.TheVariants as lines
use Rattle.dist_cert.specs.Form.{Word}
use Rattle.dist_cert.specs.Groups.{clause_of}
use Rattle.dist_cert.specs.Rising.{is_among}
use Rattle.dist_line_check.specs.Since.{IsAppendCause}
use Rattle.dist_line_check.specs.Future.{StandsForFuture}
use Rattle.dist_line_check.specs.declared.future.FutureClauses.{FutureClauses}

-- The assumptions of the open question, and the number of the last clause before its line
pub record QuestionView : Type 0 where
  pub assumptions : List Word
  pub last : ℕ

-- The limit of the first line, the clauses and which of them say what a future is, and the open question.
pub record CheckerView : Type 0 where
  pub limit : ℕ
  pub future : FutureClauses
  pub log : ClauseLog
  pub question : Option QuestionView

-- the assumptions of the open question
abbrev pub assumed : Option QuestionView → Option (List Word)
assumed (Some q) = Some q.assumptions
assumed None = None

-- ---- what is told of a line: its first fault, or none

-- a variable is above the last
abbrev pub names_above : ℕ → List Word → Bool
names_above last literals = list_any (λ word. nat_lt last word.0) literals

abbrev pub is_above : ℕ → List ℕ → Bool
is_above last numbers = list_any (λ number. nat_lt last number) numbers

abbrev pub TellsQuestion : ℕ → List Word → Option CertCause → Type 0
TellsQuestion last literals None = names_above last literals ≡ false
TellsQuestion last literals (Some OutOfRange) = names_above last literals ≡ true
TellsQuestion last literals (Some cause) = ⊥

abbrev pub TellsDerived : ClauseLog → List Word → List ℕ → Option CertCause → Type 0
TellsDerived log literals hints None = (names_above log.variables literals ≡ false)
    × (is_above (length log.clauses) hints ≡ false) × Follows log.clauses (clause_of literals) hints
TellsDerived log literals hints (Some OutOfRange) = names_above log.variables literals ≡ true
TellsDerived log literals hints (Some UnknownLine) = (names_above log.variables literals ≡ false)
    × (is_above (length log.clauses) hints ≡ true)
TellsDerived log literals hints (Some BadLine) = (names_above log.variables literals ≡ false)
    × (is_above (length log.clauses) hints ≡ false) × (¬ Follows log.clauses (clause_of literals) hints)
TellsDerived log literals hints (Some cause) = ⊥

abbrev pub TellsRefuted : ClauseLog → Option QuestionView → List ℕ → Option CertCause → Type 0
TellsRefuted log None hints found = found ≡ Some OutOfOrder
TellsRefuted log (Some question) hints None = (is_above (length log.clauses) hints ≡ false)
    × Follows log.clauses (map negation (clause_of question.assumptions)) hints
TellsRefuted log (Some question) hints (Some UnknownLine) = is_above (length log.clauses) hints ≡ true
TellsRefuted log (Some question) hints (Some BadLine) = (is_above (length log.clauses) hints ≡ false)
    × (¬ Follows log.clauses (map negation (clause_of question.assumptions)) hints)
TellsRefuted log (Some question) hints (Some cause) = ⊥

-- an installation is a model of the input clauses, and stands for a future by some of them
abbrev pub TellsInstallation : ClauseLog → FutureClauses → List ℕ → Option CertCause → Type 0
TellsInstallation log which variables None = (is_above log.variables variables ≡ false)
    × IsModel (is_among variables) (inputs_of log)
TellsInstallation log which variables (Some OutOfRange) = is_above log.variables variables ≡ true
TellsInstallation log which variables (Some NotAFuture) = (is_above log.variables variables ≡ false)
    × (¬ StandsForFuture which (is_among variables) (inputs_of log))
TellsInstallation log which variables (Some NotAnInstallation) = (is_above log.variables variables ≡ false)
    × StandsForFuture which (is_among variables) (inputs_of log)
    × (¬ IsModel (is_among variables) (inputs_of log))
TellsInstallation log which variables (Some cause) = ⊥

abbrev pub TellsUndecided : ClauseLog → ℕ → Option QuestionView → Option CertCause → Type 0
TellsUndecided log limit None found = found ≡ Some OutOfOrder
TellsUndecided log limit (Some question) None = (question.last + limit ≤ length log.clauses)
    × AreNewFrom log.clauses log.inputs (clause_of question.assumptions) question.last
TellsUndecided log limit (Some question) (Some LimitNotReached) = length log.clauses < question.last + limit
TellsUndecided log limit (Some question) (Some NotNew) = (question.last + limit ≤ length log.clauses)
    × (¬ AreNewFrom log.clauses log.inputs (clause_of question.assumptions) question.last)
TellsUndecided log limit (Some question) (Some cause) = ⊥

-- What is told of a record. Of claims and of the end the kind of file tells.
abbrev pub Tells : CheckerView → CertRecord → Option CertCause → Type 0
Tells c (lines.Question literals) = TellsQuestion c.log.variables literals
Tells c (lines.Derived literals hints) = TellsDerived c.log literals hints
Tells c (lines.Refuted hints) = TellsRefuted c.log c.question hints
Tells c (lines.Installation variables) = TellsInstallation c.log c.future variables
Tells c lines.Undecided = TellsUndecided c.log c.limit c.question
Tells c step = λ found. found ≡ None

-- ---- what a line without a fault makes of it

-- what is kept behind the line
abbrev pub behind : CheckerView → CertRecord → CheckerView
behind c (lines.Question literals) =
    record c { question = Some (record { assumptions = literals; last = length c.log.clauses }) }
behind c (lines.Derived literals hints) =
    record c { log = record c.log { clauses = c.log.clauses ++ clause_of literals ∷ [] } }
behind c (lines.Installation variables) = c
behind c step = record c { question = None }

-- why a line without a fault was not taken
abbrev pub StopsAt : CheckerView → CertRecord → WorkError → Type 0
StopsAt c (lines.Derived literals hints) error = IsAppendCause c.log (clause_of literals) error
StopsAt c step error = error ≡ NoMemory
