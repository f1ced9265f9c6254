-- A kind of file that is judged line by line: what first lines say, and what the lines behind one are judged by.
use Rattle.std.specs.Prelude.{ℕ, List}
use Rattle.dist_outside.specs.declared.limits.Limits.{Limits}
use Rattle.dist_outside.specs.declared.trouble.What.{What}
use Rattle.dist_cert.specs.declared.faults.CertCause.{CertCause}
use Rattle.dist_cert.specs.declared.records.CertRecord.{CertRecord}
use Rattle.dist_cert.specs.FileLines.{Rules}

-- How a heading is written, and when a line is one. What files with a heading are judged by is a basis; by it a heading
-- has the right numbers or not, and a line behind others a fault of a cause or none. A basis is within the limits, or
-- the heading's passes a number first.
pub record FileKind : Type 1 where
  pub Heading : Type 0
  pub heading_text : Heading → List ℕ
  pub HasHeadingForm : List ℕ → Heading → Type 0
  pub Basis : Type 0
  pub IsBasisOf : Heading → Basis → Type 0
  pub Fits : Basis → Heading → Type 0
  pub HasFault : Basis → Heading → List CertRecord → CertRecord → CertCause → Type 0
  pub IsWithin : Limits → Basis → Type 0
  pub PassesFirst : Heading → Limits → What → Type 0

-- what the lines of a file are judged by that has this basis
abbrev pub rules_of : (kind : FileKind) → kind.Basis → Rules
rules_of kind basis = record {
  Heading = kind.Heading;
  heading_text = kind.heading_text;
  HasHeadingForm = kind.HasHeadingForm;
  Fits = kind.Fits basis;
  HasFault = kind.HasFault basis;
}
