-- What is kept while questions of a sweep are asked, and what a question writes.
use Rattle.std.specs.Prelude.{◌≡◌, ℕ, List, ◌++◌, All, length}
use Rattle.std.specs.List.{AllPass}
use Rattle.dist_clause.specs.Formula.{IsTrueLiteral, value_of}
use Rattle.dist_outside.specs.DeskView.{DeskView, FileGrew}
use Rattle.dist_outside.specs.declared.trouble.WorkError.{WorkError}
use Rattle.dist_cert.specs.declared.records.CertRecord.{CertRecord}
use Rattle.dist_cert.specs.declared.records.CertRecord.TheVariants as lines
use Rattle.dist_cert.specs.FileLines.{lines_text}
use Rattle.dist_cert.specs.Form.{Word}
use Rattle.dist_cert.specs.Groups.{clause_of}
use Rattle.dist_cert.specs.Part.{IsNextQuestion}
use Rattle.dist_line_write.specs.Asking.{AskerView, IsLogAt, is_derived, question_lines}
use Rattle.dist_line_write.specs.Words.{true_variables}
use Rattle.dist_solver.specs.declared.answers.Answer.{Answer}
use Rattle.dist_solver.specs.declared.answers.Answer.TheVariants as answers
use Rattle.dist_subject.specs.Installed.{ModelsStand}
use Rattle.dist_sweep.specs.Script.{Setting, IsWriter, Stops, matter_in, script_of}
use Rattle.dist_sweep.specs.declared.asking.Reply.{Reply}
use Rattle.dist_sweep.specs.declared.asking.Reply.TheVariants.{Found, Refuted, Undecided}

-- What is kept is what these lines hold.
pub record IsAt (g : Setting) (before : List CertRecord) (s : AskerView) : Type 0 where
  pub log : IsLogAt (script_of g) before s.log s.limit
  pub writer : IsWriter g before s.writer
  pub stand : ModelsStand (matter_in g)

-- the line that closes a question, or the installation that was found for it
abbrev pub IsReplyLine : Reply → CertRecord → Type 0
IsReplyLine (Found values) step = step ≡ lines.Installation (true_variables values)
IsReplyLine Refuted step = (hints : List ℕ) × (step ≡ lines.Refuted hints)
IsReplyLine Undecided step = step ≡ lines.Undecided

-- what a sweep is told of an answer
abbrev pub IsReplyOf : Answer → Reply → Type 0
IsReplyOf (answers.Found values) (Found told) = told ≡ values
IsReplyOf (answers.Refuted hints) Refuted = Unit {0}
IsReplyOf answers.Undecided Undecided = Unit {0}
IsReplyOf answer reply = ⊥

-- a reply that is an installation tells one truth value for each of n packages, and the assumptions are true
abbrev pub Holds : ℕ → List Word → Reply → Type 0
Holds n question (Found values) = (length values ≡ n) × All (IsTrueLiteral (value_of values)) (clause_of question)
Holds n question reply = Unit {0}

-- The question was asked: its lines were written behind those before, and what is kept is what they all hold.
pub record IsAsked (g : Setting) (before : List CertRecord) (question : List Word) (old new : DeskView) (t : AskerView)
    (reply : Reply) : Type 0 where
  pub between : List CertRecord
  pub only_derived : AllPass is_derived between
  pub answer : CertRecord
  pub is_answer : IsReplyLine reply answer
  pub grew : FileGrew (lines_text (question_lines question between answer)) old new
  pub at : IsAt g (before ++ question_lines question between answer) t

-- where the question is the next one, it was asked
abbrev pub AskMore : DeskView → DeskView → AskerView → AskerView → List Word → Reply → Type 0
AskMore old new a b question reply = (g : Setting) (before : List CertRecord) → IsAt g before a
    → IsNextQuestion (matter_in g) g.header before question → IsAsked g before question old new b reply

-- or the writing stopped
abbrev pub AskStops : AskerView → List Word → DeskView → DeskView → WorkError → Type 0
AskStops a question old new error = (g : Setting) (before : List CertRecord) → IsAt g before a
    → IsNextQuestion (matter_in g) g.header before question → Stops g before old new error
