-- The lines of files whose lines answer one question can be told apart.
use Rattle.std.proofs.Common.{sym, ◌∙◌}
use Rattle.dist_cert.specs.ClearFormsLaws.{FormsAreClear, clear_records}
use Rattle.dist_cert.specs.FileLines.{IsOneLine}
use Rattle.dist_judge.specs.ClearKindLaws.{IsClear}
use Rattle.dist_findings.specs.AnswerFiles.{AnswerFile, files_of}

pub clear_files : FormsAreClear → (file : AnswerFile) → IsOneLine file.front → IsClear (files_of file)
clear_files clear file one = record {
  records = clear_records clear;
  one_heading = λ line numbers other first second.
      clear.one_list file.front numbers other first.small second.small
      (sym first.text ∙ second.text);
  heading_is = λ line numbers form. form.text;
  heading_line = λ numbers form. clear.front_line file.front numbers one form.small;
  of_records = λ basis numbers before step. record {
    not_long = λ fault. fault.1;
    not_cut = λ fault. fault.1;
    not_bad = λ fault. fault.1;
  };
  not_heading = λ basis numbers before step fault. fault.1;
}
