-- That the lines of files of a kind can be told apart.
use Rattle.std.specs.Prelude.{◌≡◌, ℕ, List}
use Rattle.dist_cert.specs.declared.faults.CertCause.TheVariants.{BadHeader}
use Rattle.dist_cert.specs.declared.records.CertRecord.{CertRecord}
use Rattle.dist_cert.specs.ClearFormsLaws.{AreClear, AreOfRecords, RecordsAreClear}
use Rattle.dist_cert.specs.FileLines.{IsOneLine}
use Rattle.dist_judge.specs.FileKind.{FileKind, rules_of}

-- A line has at most one form, and is the text of its form, which has no line feed. What is wrong with a record is
-- nothing that is wrong with a line whatever its record, or with a first line.
pub record IsClear (kind : FileKind) : Type 0 where
  pub records : RecordsAreClear
  pub one_heading : (line : List ℕ) (h other : kind.Heading) → kind.HasHeadingForm line h
      → kind.HasHeadingForm line other → h ≡ other
  pub heading_is : (line : List ℕ) (h : kind.Heading) → kind.HasHeadingForm line h → line ≡ kind.heading_text h
  pub heading_line : (h : kind.Heading) → kind.HasHeadingForm (kind.heading_text h) h
      → IsOneLine (kind.heading_text h)
  pub of_records : (basis : kind.Basis) (h : kind.Heading) (before : List CertRecord) (step : CertRecord)
      → AreOfRecords (kind.HasFault basis h before step)
  pub not_heading : (basis : kind.Basis) (h : kind.Heading) (before : List CertRecord) (step : CertRecord)
      → ¬ kind.HasFault basis h before step BadHeader

-- what files with a heading are judged by is one
abbrev pub BasesAreOne : FileKind → Type 0
BasesAreOne kind = (h : kind.Heading) (basis other : kind.Basis) → kind.IsBasisOf h basis → kind.IsBasisOf h other
    → other ≡ basis

pub clear_rules : (kind : FileKind) → IsClear kind → (basis : kind.Basis) → AreClear (rules_of kind basis)
clear_rules kind clear basis = record {
  records = clear.records;
  one_heading = clear.one_heading;
  heading_is = clear.heading_is;
  heading_line = clear.heading_line;
  of_records = clear.of_records basis;
}
