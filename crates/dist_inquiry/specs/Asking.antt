-- What is kept while the file of one question is written, and what a question writes.
use Rattle.std.specs.Prelude.{List, ◌++◌, []}
use Rattle.std.specs.List.{AllPass}
use Rattle.dist_outside.specs.DeskView.{DeskView, FileGrew}
use Rattle.dist_outside.specs.declared.trouble.WorkError.{WorkError}
use Rattle.dist_solver.specs.declared.answers.Answer.{Answer}
use Rattle.dist_cert.specs.declared.records.CertRecord.{CertRecord}
use Rattle.dist_cert.specs.declared.records.CertRecord.TheVariants.{Question}
use Rattle.dist_cert.specs.FileLines.{lines_text}
use Rattle.dist_cert.specs.Form.{Word}
use Rattle.dist_findings.specs.Unclaimed.{clauses_alone}
use Rattle.dist_line_write.specs.Asking.{AskerView, IsLogAt, Says, is_derived, question_lines}
use Rattle.dist_line_write.specs.Script.{AllNext, IsWriter, OnlyThis, Script, Stops}
use Rattle.dist_line_write.specs.Words.{closing_line}
use Rattle.dist_subject.specs.Installed.{ModelsStand}

-- What is kept is what these lines hold, each of which may come behind those before it.
pub record IsAt (g : Script) (before : List CertRecord) (s : AskerView) : Type 0 where
  pub log : IsLogAt g before s.log s.limit
  pub writer : IsWriter g before s.writer
  pub next : AllNext g [] before
  pub stand : ModelsStand (clauses_alone g.variables g.inputs)

-- The question was asked: its lines were written behind those before, and what is kept is what they all hold.
pub record IsAsked (g : Script) (before : List CertRecord) (question : List Word) (old new : DeskView) (t : AskerView)
    (answer : Answer) : Type 0 where
  pub between : List CertRecord
  pub only_derived : AllPass is_derived between
  pub grew : FileGrew (lines_text (question_lines question between (closing_line answer))) old new
  pub at : IsAt g (before ++ question_lines question between (closing_line answer)) t
  pub says : Says g question answer

-- the question was asked behind any lines
abbrev pub AskMore : DeskView → DeskView → AskerView → AskerView → List Word → Answer → Type 0
AskMore old new a b question answer = (g : Script) (before : List CertRecord) → IsAt g before a
    → IsAsked g before question old new b answer

-- or the writing stopped, with no other question
abbrev pub AskStops : AskerView → List Word → DeskView → DeskView → WorkError → Type 0
AskStops a question old new error = (g : Script) (before : List CertRecord) → IsAt g before a
    → Stops g (OnlyThis before (Question question)) before old new error
