-- The lines of certificates can be told apart.
use Rattle.dist_repo.specs.PackageList.{PackageList}
use Rattle.dist_cert.specs.ClearFormsLaws.{FormsAreClear, clear_records, of_records}
use Rattle.dist_judge.specs.ClearKindLaws.{IsClear}
use Rattle.dist_subject.specs.Basis.{matter_of}
use Rattle.dist_subject.specs.Certificates.{certificates_of}

pub clear-kind : FormsAreClear → (r : PackageList) → IsClear (certificates_of r)
clear-kind clear r = record {
  records = clear_records clear;
  one_heading = clear.one_header;
  heading_is = λ line h form. form.text;
  heading_line = clear.header_line;
  of_records = λ basis. of_records (matter_of r basis);
  not_heading = λ basis h before step fault. fault;
}
