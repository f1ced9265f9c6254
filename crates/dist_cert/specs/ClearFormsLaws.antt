-- That the forms of lines can be told apart.
use Rattle.std.specs.Prelude.{◌≡◌, ℕ, List, All}
use Rattle.dist_cert.specs.declared.faults.CertCause.{CertCause}
use Rattle.dist_cert.specs.declared.faults.CertCause.TheVariants as causes
use Rattle.dist_cert.specs.declared.records.CertRecord.{CertRecord}
use Rattle.dist_cert.specs.declared.records.Header.{Header}
use Rattle.dist_cert.specs.FileLines.{Rules, IsOneLine}
use Rattle.dist_cert.specs.FirstLines.{first_line}
use Rattle.dist_cert.specs.Form.{IsSmall, record_text, HasForm, header_text, HasHeaderForm}
use Rattle.dist_cert.specs.LineRules.{HasRecordFault}
use Rattle.dist_cert.specs.Refusal.{certificate_rules}
use Rattle.dist_cert.specs.Subject.{Matter}

-- A line has at most one form, and the text of a form has no line feed. So it is of first lines that are a front and
-- numbers. The law `forms_are_clear` says that it is so.
pub record FormsAreClear : Type 0 where
  pub one_header : (line : List ℕ) (h other : Header) → HasHeaderForm line h → HasHeaderForm line other → h ≡ other
  pub one_record : (line : List ℕ) (step other : CertRecord) → HasForm line step → HasForm line other → step ≡ other
  pub header_line : (h : Header) → HasHeaderForm (header_text h) h → IsOneLine (header_text h)
  pub record_line : (step : CertRecord) → HasForm (record_text step) step → IsOneLine (record_text step)
  pub one_list : (front numbers other : List ℕ) → All IsSmall numbers → All IsSmall other
      → first_line front numbers ≡ first_line front other → numbers ≡ other
  pub front_line : (front numbers : List ℕ) → IsOneLine front → All IsSmall numbers
      → IsOneLine (first_line front numbers)

-- The same of the lines behind a first line.
pub record RecordsAreClear : Type 0 where
  pub one_record : (line : List ℕ) (step other : CertRecord) → HasForm line step → HasForm line other → step ≡ other
  pub record_line : (step : CertRecord) → HasForm (record_text step) step → IsOneLine (record_text step)

-- A record has none of the faults that a line has whatever its record.
pub record AreOfRecords (Has : CertCause → Type 0) : Type 0 where
  pub not_long : ¬ Has causes.LineTooLong
  pub not_cut : ¬ Has causes.Truncated
  pub not_bad : ¬ Has causes.BadRecord

-- The same of a file, the first lines of which are the texts of their headings.
pub record AreClear (rules : Rules) : Type 0 where
  pub records : RecordsAreClear
  pub one_heading : (line : List ℕ) (h other : rules.Heading) → rules.HasHeadingForm line h
      → rules.HasHeadingForm line other → h ≡ other
  pub heading_is : (line : List ℕ) (h : rules.Heading) → rules.HasHeadingForm line h → line ≡ rules.heading_text h
  pub heading_line : (h : rules.Heading) → rules.HasHeadingForm (rules.heading_text h) h
      → IsOneLine (rules.heading_text h)
  pub of_records : (h : rules.Heading) (before : List CertRecord) (step : CertRecord)
      → AreOfRecords (rules.HasFault h before step)

pub clear_records : FormsAreClear → RecordsAreClear
clear_records clear = record { one_record = clear.one_record; record_line = clear.record_line }

pub of_records : (matter : Matter) (h : Header) (before : List CertRecord) (step : CertRecord)
    → AreOfRecords (HasRecordFault matter h before step)
of_records matter h before step = record { not_long = λ f. f; not_cut = λ f. f; not_bad = λ f. f }

pub clear_certificates : FormsAreClear → (matter : Matter) → AreClear (certificate_rules matter)
clear_certificates clear matter = record {
  records = clear_records clear;
  one_heading = clear.one_header;
  heading_is = λ line h form. form.text;
  heading_line = clear.header_line;
  of_records = of_records matter;
}
