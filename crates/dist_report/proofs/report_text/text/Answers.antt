use Rattle.std.proofs.Common.{IfOk, subst}
use Rattle.dist_repo.specs.PackageList.{PackageList}
use Rattle.dist_report.specs.ReportText.{IsReportText}
use Rattle.dist_report.proofs.report_text.text.Goals as goal

pub returns : goal.returns
returns c = subst (λ (r : PackageList). IfOk c.text_by-text.result (λ text. IsReportText r c.args.header.now c.args.claims.now text.items))
    c.in_ok-labels.ensures c.text_by-text.ensures
