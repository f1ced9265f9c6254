-- The faults of a certificate, line by line, and the first of them.
use Rattle.std.specs.Prelude.{◌≡◌, ℕ, List, length}
use Rattle.dist_outside.specs.declared.limits.Limits.{Limits}
use Rattle.dist_cert.specs.declared.faults.CertCause.{CertCause}
use Rattle.dist_cert.specs.declared.faults.CertFault.{CertFault}
use Rattle.dist_cert.specs.declared.records.CertRecord.{CertRecord}
use Rattle.dist_cert.specs.declared.records.Header.{Header}
use Rattle.dist_cert.specs.FileLines.{Rules, file_text, ReadsAs, HasHeadingFault, HasFaultBehind, AreRight}
use Rattle.dist_cert.specs.FileLines.{IsRefusedFirst, IsRefusedLater, IsRefusedWith}
use Rattle.dist_cert.specs.Form.{header_text, HasHeaderForm}
use Rattle.dist_cert.specs.Subject.{Matter}
use Rattle.dist_cert.specs.LineRules.{HasRecordFault}

-- the header's numbers are those of what it speaks of
pub record Fits (matter : Matter) (h : Header) : Type 0 where
  pub packages : h.packages ≡ matter.packages
  pub variables : h.variables ≡ matter.variables
  pub clauses : h.clauses ≡ length matter.inputs

-- what the lines of a certificate are judged by
abbrev pub certificate_rules : Matter → Rules
certificate_rules matter = record {
  Heading = Header;
  heading_text = header_text;
  HasHeadingForm = HasHeaderForm;
  Fits = Fits matter;
  HasFault = HasRecordFault matter;
}

-- the text of a header and of records, each ended by a line feed
abbrev pub certificate_text : Header → List CertRecord → List ℕ
certificate_text h steps = file_text (header_text h) steps

-- the text begins with the lines of this header and these records, and has `rest` behind them
abbrev pub Reads : List ℕ → Header → List CertRecord → List ℕ → Type 0
Reads text h steps rest = ReadsAs header_text HasHeaderForm text h steps rest

-- the first line of the text has a fault of this cause
abbrev pub HasFirstFault : Matter → Limits → List ℕ → CertCause → Type 0
HasFirstFault matter limits text cause = HasHeadingFault (certificate_rules matter) limits text cause

-- the line with which `rest` begins has one, behind a header and the records `before`
abbrev pub HasLineFault : Matter → Limits → Header → List CertRecord → List ℕ → CertCause → Type 0
HasLineFault matter limits h before rest cause = HasFaultBehind (HasRecordFault matter h) limits before rest cause

-- the lines of the header and the records `before`, behind which `rest` stands, have no fault
abbrev pub AreFaultless : Matter → Limits → List ℕ → Header → List CertRecord → List ℕ → Type 0
AreFaultless matter limits text h before rest = AreRight (certificate_rules matter) limits text h before rest

-- the first line is the faulty one
abbrev pub IsFirstRefused : Matter → Limits → List ℕ → CertFault → Type 0
IsFirstRefused matter limits text fault = IsRefusedFirst (certificate_rules matter) limits text fault

-- the line behind a faultless header and faultless records is
abbrev pub IsLaterRefused : Matter → Limits → List ℕ → Header → List CertRecord → List ℕ → CertFault → Type 0
IsLaterRefused matter limits text h before rest fault =
    IsRefusedLater (certificate_rules matter) limits text h before rest fault

-- the text is refused with this fault
abbrev pub Refusal : Matter → Limits → List ℕ → CertFault → Type 0
Refusal matter limits text fault = IsRefusedWith (certificate_rules matter) limits text fault
