use Rattle.std.proofs.Common.{IfOk, subst}
use Rattle.dist_repo.specs.PackageList.{PackageList}
use Rattle.dist_report.specs.ClassesReport.{IsClassesText}
use Rattle.dist_report.proofs.classes_report.classes_text.Goals as goal

pub returns : goal.returns
returns c = subst (λ (r : PackageList). IfOk c.classes_text_by-text.result (λ text. IsClassesText r text.items)) c.in_ok-labels.ensures
    c.classes_text_by-text.ensures
