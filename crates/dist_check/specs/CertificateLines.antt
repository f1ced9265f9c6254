-- Certificates as a kind of file that is checked line by line.
use Rattle.dist_repo.specs.PackageList.{PackageList}
use Rattle.dist_check_state.specs.State.{StateView}
use Rattle.dist_line_check.specs.Kinds.{LineKind}
use Rattle.dist_subject.specs.Basis.{matter_of}
use Rattle.dist_subject.specs.Certificates.{certificates_of}
use Rattle.dist_check.specs.AtPrivate.{IsAt}

abbrev pub certificate_lines : PackageList → LineKind StateView
certificate_lines r = record {
  file = certificates_of r;
  matter = matter_of r;
  header = λ h. h;
  Noted = λ basis. IsAt (matter_of r basis);
}
