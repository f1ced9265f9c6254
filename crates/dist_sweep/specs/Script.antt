-- The lines that were written so far, and where the writing stops.
use Rattle.std.specs.Prelude.{◌≡◌, ◌⊎◌, ℕ, List, [], ◌∷◌, ◌++◌}
use Rattle.dist_base.specs.Front.{IsFrontOf}
use Rattle.dist_outside.specs.Counts.{Rose}
use Rattle.dist_outside.specs.DeskView.{DeskView, FileGrew}
use Rattle.dist_outside.specs.declared.limits.Limits.{Limits}
use Rattle.dist_outside.specs.declared.trouble.WorkError.{WorkError}
use Rattle.dist_outside.specs.declared.trouble.WorkError.TheVariants.{WriteFault, TooLarge, NoMemory}
use Rattle.dist_repo.specs.PackageList.{PackageList}
use Rattle.dist_cert.specs.declared.records.CertRecord.{CertRecord}
use Rattle.dist_cert.specs.declared.records.Header.{Header}
use Rattle.dist_cert.specs.Form.{record_text, header_text}
use Rattle.dist_cert.specs.Part.{IsNextQuestion, Passes}
use Rattle.dist_cert.specs.PartByRecordsLaws.{IsLine}
use Rattle.dist_cert.specs.FileLines.{lines_text}
use Rattle.dist_cert.specs.Subject.{Matter}
use Rattle.dist_cert.specs.Writing.{WriterView, ended}
use Rattle.dist_line_write.specs.Script.{Asks, KeepsNumbers, Script, writer_at}
use Rattle.dist_subject.specs.Basis.{Basis, matter_of}

-- What a certificate is written for: packages, what the certificates of its kind and mode are judged by, its first
-- line, and the limits.
pub record Setting : Type 0 where
  pub repo : PackageList
  pub basis : Basis
  pub header : Header
  pub limits : Limits

abbrev pub matter_in : Setting → Matter
matter_in g = matter_of g.repo g.basis

-- each line may come next, behind those before it
abbrev pub AllNext : Setting → List CertRecord → List CertRecord → Type 0
AllNext g before [] = Unit {0}
AllNext g before (step ∷ steps) = IsLine (matter_in g) g.header before step × AllNext g (before ++ step ∷ []) steps

-- as lines of questions are written for
abbrev pub script_of : Setting → Script
script_of g = record {
  first = header_text g.header;
  limit = g.header.limit;
  variables = (matter_in g).variables;
  inputs = (matter_in g).inputs;
  limits = g.limits;
}

-- which questions may be asked: those that the next claim needs
abbrev pub questions_of : Setting → Asks
questions_of g = λ before question. IsNextQuestion (matter_in g) g.header before question

-- Lines that may be written so far. They pass no number.
pub record AreWritten (g : Setting) (lines : List CertRecord) : Type 0 where
  pub next : AllNext g [] lines
  pub within : KeepsNumbers (script_of g) lines

-- The lines are written, and the writer stands behind them.
pub record IsWriter (g : Setting) (lines : List CertRecord) (w : WriterView) : Type 0 where
  pub written : AreWritten g lines
  pub stands : w ≡ writer_at (script_of g) lines

-- one line more would pass a number
abbrev pub IsPassed : Setting → List CertRecord → WorkError → Type 0
IsPassed g lines (TooLarge what) = (step : CertRecord) × IsLine (matter_in g) g.header lines step
    × Passes g.limits g.header (lines ++ step ∷ []) what
IsPassed g lines error = ⊥

-- The bytes are a front of the line that comes next.
abbrev pub IsCutOff : Setting → List CertRecord → List ℕ → Type 0
IsCutOff g lines cut = (step : CertRecord) × IsLine (matter_in g) g.header lines step
    × IsFrontOf (ended (record_text step)) cut

-- why the writing stops, with a cut line or without one
abbrev pub StopsBy : Setting → List CertRecord → List ℕ → DeskView → DeskView → WorkError → Type 0
StopsBy g lines cut old new WriteFault = Rose old.write_faults new.write_faults
StopsBy g lines cut old new (TooLarge what) = (cut ≡ []) × IsPassed g lines (TooLarge what)
StopsBy g lines cut old new NoMemory = Unit {0}
StopsBy g lines cut old new error = ⊥

-- The writing went on from some lines and stopped: more lines were written, and perhaps a front of one more.
pub record Stops (g : Setting) (before : List CertRecord) (old new : DeskView) (error : WorkError) : Type 0 where
  pub added : List CertRecord
  pub cut : List ℕ
  pub written : AreWritten g (before ++ added)
  pub grew : FileGrew (lines_text added ++ cut) old new
  pub cut_off : (cut ≡ []) ⊎ IsCutOff g (before ++ added) cut
  pub by : StopsBy g (before ++ added) cut old new error
