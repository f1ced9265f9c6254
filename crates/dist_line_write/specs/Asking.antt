-- What is kept while questions are asked, and what a question writes.
use Rattle.std.specs.Prelude.{◌≡◌, ℕ, ◌<◌, ◌≤◌, Bool, true, false, List, ◌∷◌, ◌++◌, [], All, length, map, Ok}
use Rattle.std.specs.List.{list_any, AllPass}
use Rattle.dist_clause.specs.Formula.{IsModel, IsTrueLiteral, Literal, negation, value_of}
use Rattle.dist_derive.specs.ClauseLog.{ClauseLog}
use Rattle.dist_derive.specs.Follows.{Follows}
use Rattle.dist_outside.specs.DeskView.{DeskView, FileGrew}
use Rattle.dist_outside.specs.declared.trouble.What.TheVariants.{Lines, LineLiterals}
use Rattle.dist_outside.specs.declared.trouble.WorkError.{WorkError}
use Rattle.dist_outside.specs.declared.trouble.WorkError.TheVariants.{TooLarge}
use Rattle.dist_outside.specs.declared.trouble.WorkError.TheVariants as errors
use Rattle.dist_solver.specs.Ask.{IsAnswer}
use Rattle.dist_solver.specs.Evidence.{IsShort}
use Rattle.dist_solver.specs.declared.answers.Answer.{Answer}
use Rattle.dist_solver.specs.declared.answers.Answer.TheVariants.{Found, Refuted, Undecided}
use Rattle.dist_solver.specs.declared.answers.AskError.{AskError}
use Rattle.dist_solver.specs.declared.answers.AskError.TheVariants.{TooManyLines, TooManyLiterals, NoMemory}
use Rattle.dist_cert.specs.declared.records.CertRecord.{CertRecord}
use Rattle.dist_cert.specs.declared.records.CertRecord.TheVariants.{Question}
use Rattle.dist_cert.specs.declared.records.CertRecord.TheVariants as lines
use Rattle.dist_cert.specs.FileLines.{lines_text}
use Rattle.dist_cert.specs.Form.{Word, AreLiterals, is_end}
use Rattle.dist_cert.specs.Groups.{clause_of, derived}
use Rattle.dist_cert.specs.Writing.{WriterView}
use Rattle.dist_line_write.specs.Script.{Script, AllNext, IsLine, IsWriter, OnlyThis, Stops}
use Rattle.dist_line_write.specs.Words.{closing_line}

-- the log of clauses, the writer, and the number of derived lines that leave a question undecided
pub record AskerView : Type 0 where
  pub log : ClauseLog
  pub writer : WriterView
  pub limit : ℕ

-- The log is the input clauses and the derived lines among these lines.
pub record IsLogAt (g : Script) (before : List CertRecord) (log : ClauseLog) (limit : ℕ) : Type 0 where
  pub limit_is : limit ≡ g.limit
  pub clauses : log.clauses ≡ g.inputs ++ derived before
  pub inputs : log.inputs ≡ length g.inputs
  pub variables : log.variables ≡ g.variables
  pub line_limit : log.line_limit ≡ g.limits.lines
  pub line_literal_limit : log.line_literal_limit ≡ g.limits.line_literals
  pub not_ended : list_any is_end before ≡ false

-- What is kept is what these lines hold.
pub record IsAt (g : Script) (before : List CertRecord) (s : AskerView) : Type 0 where
  pub log : IsLogAt g before s.log s.limit
  pub writer : IsWriter g before s.writer

-- ---- a question and its lines

-- The literals are those of a question over the variables from 1 to n.
pub record IsOver (n : ℕ) (question : List Word) : Type 0 where
  pub some : 0 < length question
  pub form : AreLiterals question
  pub upto : All (λ word. word.0 ≤ n) question

-- a derived line
abbrev pub is_derived : CertRecord → Bool
is_derived (lines.Derived literals hints) = true
is_derived step = false

-- the lines of a question: its own, derived ones, and the one of its answer
abbrev pub question_lines : List Word → List CertRecord → CertRecord → List CertRecord
question_lines question between answer = lines.Question question ∷ (between ++ answer ∷ [])

-- an answer that is an installation tells one truth value for each of n variables, and the assumptions are true
abbrev pub Holds : ℕ → List Word → Answer → Type 0
Holds n question (Found values) = (length values ≡ n) × All (IsTrueLiteral (value_of values)) (clause_of question)
Holds n question answer = Unit {0}

-- What an answer says of the clauses that questions are asked over: a model that makes the assumptions true, or that
-- there is none.
abbrev pub Says : Script → List Word → Answer → Type 0
Says g question (Found values) = (length values ≡ g.variables) × IsModel (value_of values) g.inputs
    × All (IsTrueLiteral (value_of values)) (clause_of question)
Says g question (Refuted hints) = (value : ℕ → Bool) → IsModel value g.inputs
    → ¬ All (IsTrueLiteral value) (clause_of question)
Says g question Undecided = Unit {0}

-- The question was asked: its lines were written behind those before, each where it may come next, and what is kept is
-- what they all hold.
pub record IsAsked (g : Script) (before : List CertRecord) (question : List Word) (old new : DeskView) (t : AskerView)
    (answer : Answer) : Type 0 where
  pub between : List CertRecord
  pub only_derived : AllPass is_derived between
  pub grew : FileGrew (lines_text (question_lines question between (closing_line answer))) old new
  pub next : AllNext g before (question_lines question between (closing_line answer))
  pub at : IsAt g (before ++ question_lines question between (closing_line answer)) t
  pub says : Says g question answer

-- the question was asked behind any lines
abbrev pub AskMore : DeskView → DeskView → AskerView → AskerView → List Word → Answer → Type 0
AskMore old new a b question answer = (g : Script) (before : List CertRecord) → IsAt g before a
    → IsAsked g before question old new b answer

-- or the writing stopped, with no other question
abbrev pub AskStops : AskerView → List Word → DeskView → DeskView → WorkError → Type 0
AskStops a question old new error = (g : Script) (before : List CertRecord) → IsAt g before a
    → Stops g (OnlyThis before (Question question)) before old new error

-- ---- within a question

-- Where the own line of a question stands behind these lines, what is kept is what those before it hold.
pub record MayDerive (g : Script) (before : List CertRecord) (question : List Word) (log : ClauseLog) (limit : ℕ)
    (w : WriterView) : Type 0 where
  pub log_at : IsLogAt g before log limit
  pub writer : IsWriter g (before ++ Question question ∷ []) w

-- The derived lines of a question were written behind its own line, and the line of the answer may come next.
pub record IsDerived (g : Script) (before : List CertRecord) (question : List Word) (old new : DeskView)
    (log after : ClauseLog) (limit : ℕ) (w : WriterView) (answer : Answer) : Type 0 where
  pub between : List CertRecord
  pub only_derived : AllPass is_derived between
  pub grew : FileGrew (lines_text between) old new
  pub next : AllNext g (before ++ Question question ∷ []) between
  pub log_at : IsLogAt g (before ++ Question question ∷ between) after limit
  pub writer : IsWriter g (before ++ Question question ∷ between) w
  pub closing : IsLine g (before ++ Question question ∷ between) (closing_line answer)
  pub answered : IsAnswer log after (clause_of question) limit (Ok answer)

-- The hints refute the assumptions: the clause of their negations follows by them, and they are not too many.
abbrev pub AreRefuted : ClauseLog → (assumptions : List Literal) → (hints : List ℕ) → Type 0
AreRefuted log assumptions hints = Follows log.clauses (map negation assumptions) hints × IsShort log.variables hints

-- why a question got no answer, as an error of work
abbrev pub work_of : AskError → WorkError
work_of TooManyLines = TooLarge Lines
work_of TooManyLiterals = TooLarge LineLiterals
work_of NoMemory = errors.NoMemory
