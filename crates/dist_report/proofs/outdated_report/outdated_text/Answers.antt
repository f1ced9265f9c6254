use Rattle.std.proofs.Common.{List, ℕ, ◌++◌, codes, ap, ◌∙◌}
use Rattle.dist_repo.specs.PackageList.{PackageList}
use Rattle.dist_report.specs.ClaimParts.{opening_lines, told_packages}
use Rattle.dist_report.specs.ClaimPartsPrivate.{is_part}
use Rattle.dist_report.specs.declared.claim_parts.Part.TheVariants.{OutOfDate}
use Rattle.dist_report.proofs.LineLemmas.{joined-two}
use Rattle.dist_report.proofs.outdated_report.outdated_text.Goals as goal

pub returns : goal.returns
returns c =
    let packages = c.args.labels.now.packages in
    let part = told_packages (codes "outdated:") (is_part OutOfDate) packages c.args.claims.now in
    let out = c.in_ok-out.ensures ∙ ap (λ (r : PackageList). opening_lines (codes "outdated") r.packages c.args.limit) c.repo-repo.ensures in
    let first = c.in_ok-write_part.ensures ∙ ap (λ (t : List ℕ). t ++ part) out in
    joined-two (opening_lines (codes "outdated") packages c.args.limit) _ _ _ _ first c.in_ok-write_part-2.ensures
