use Rattle.std.proofs.Common.{ℕ, List, ◌++◌, codes, ap, ◌∙◌}
use Rattle.dist_report.specs.Lines.{listed}
use Rattle.dist_report.specs.PackageText.{package_line}
use Rattle.dist_report.proofs.claim_parts.write_part.Goals as goal

pub returns : goal.returns
returns c =
    let packages = c.args.labels.now.packages in
    c.in_ok-write_packages.ensures
    ∙ ap (λ (list : List ℕ). c.args.out.now.items ++ listed c.args.key.now (package_line (codes "  - ") packages) list)
    (c.deref.ensures.value ∙ c.in_ok-numbers.ensures)
