-- Certificates over packages, as files that are judged line by line.
use Rattle.dist_repo.specs.PackageList.{PackageList}
use Rattle.dist_cert.specs.declared.records.Header.{Header}
use Rattle.dist_cert.specs.Form.{header_text, HasHeaderForm}
use Rattle.dist_cert.specs.LineRules.{HasRecordFault}
use Rattle.dist_cert.specs.Refusal.{Fits}
use Rattle.dist_judge.specs.FileKind.{FileKind}
use Rattle.dist_subject.specs.Basis.{Basis, IsBasisOf, matter_of}
use Rattle.dist_subject.specs.Limited.{AreInputsWithin, PassesFirst}

-- a header has a kind and a mode, and these a basis
abbrev pub certificates_of : PackageList → FileKind
certificates_of r = record {
  Heading = Header;
  heading_text = header_text;
  HasHeadingForm = HasHeaderForm;
  Basis = Basis;
  IsBasisOf = λ h basis. IsBasisOf r h.kind h.essential basis;
  Fits = λ basis. Fits (matter_of r basis);
  HasFault = λ basis. HasRecordFault (matter_of r basis);
  IsWithin = λ limits basis. AreInputsWithin limits r basis;
  PassesFirst = λ h limits what. PassesFirst r h.kind h.essential limits what;
}
