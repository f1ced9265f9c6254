-- Numbers that are enough for a file: for one whose questions are few, and for the sweep of a kind over what is spoken
-- of.
use Rattle.std.specs.Prelude.{ℕ, ◌+◌, ◌*◌, ◌<◌, sum_by}
use Rattle.dist_outside.specs.declared.limits.Limits.{Limits}
use Rattle.dist_outside.specs.declared.trouble.What.{What}
use Rattle.dist_outside.specs.declared.trouble.What.TheVariants.{Lines, LineLiterals, RecordLine, Certificate}
use Rattle.dist_cert.specs.Subject.{Cluster, Matter}
use Rattle.dist_cert.specs.declared.TheConstants.{REACH}
use Rattle.dist_cert.specs.declared.records.CertKind.{CertKind}
use Rattle.dist_cert.specs.declared.records.CertKind.TheVariants as kinds

-- ---- a file

-- Of a file: the packages and the variables that it speaks of, how many questions it asks at most, and how many derived
-- lines leave one of them undecided.
pub record FileSize : Type 0 where
  pub packages : ℕ
  pub variables : ℕ
  pub questions : ℕ
  pub limit : ℕ

-- derived lines
abbrev pub line_budget : FileSize → ℕ
line_budget size = size.limit * size.questions

-- literals in them
abbrev pub literal_budget : FileSize → ℕ
literal_budget size = size.variables * line_budget size

-- Bytes of a line, with its line feed: 12 for each word. A line has at most two words for each variable, one for each
-- installation that a claim may reach, and a few more, for which 76 are enough.
abbrev pub record_budget : (variables : ℕ) → ℕ
record_budget variables = 12 * (2 * variables + (REACH + 76))

-- bytes of the file
abbrev pub certificate_budget : FileSize → ℕ
certificate_budget size =
    record_budget size.variables * (size.packages + 2 + size.questions * (size.limit + 2))

-- the number is below its budget
abbrev pub IsBelowFileBudget : Limits → FileSize → What → Type 0
IsBelowFileBudget limits size Lines = limits.lines < line_budget size
IsBelowFileBudget limits size LineLiterals = limits.line_literals < literal_budget size
IsBelowFileBudget limits size RecordLine = limits.record_line < record_budget size.variables
IsBelowFileBudget limits size Certificate = limits.certificate < certificate_budget size
IsBelowFileBudget limits size what = ⊥

-- ---- a sweep

-- the pairs of a cluster and one of its classes
abbrev pub pair_count : Matter → ℕ
pair_count matter = sum_by (λ (c : Cluster). c.classes) matter.clusters

-- Kind strong: each package alone, and without each other one. Kind outdated: each package. Kind challenged: each
-- package today, and at each class of a cluster.
abbrev pub question_budget : CertKind → Matter → ℕ
question_budget kinds.Strong matter = matter.packages * matter.packages
question_budget kinds.Outdated matter = matter.packages
question_budget kinds.Challenged matter = matter.packages + matter.packages * pair_count matter

-- where so many derived lines leave a question undecided
abbrev pub sweep_size : CertKind → Matter → (limit : ℕ) → FileSize
sweep_size kind matter limit = record {
  packages = matter.packages;
  variables = matter.variables;
  questions = question_budget kind matter;
  limit = limit;
}

-- the number is below its budget
abbrev pub IsBelowBudget : Limits → CertKind → Matter → (limit : ℕ) → What → Type 0
IsBelowBudget limits kind matter limit what = IsBelowFileBudget limits (sweep_size kind matter limit) what
