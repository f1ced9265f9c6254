use Rattle.dist_report.proofs.LineLemmas.{joined-two}
use Rattle.dist_report.proofs.strong_report.write_entry.Goals as goal

pub returns : goal.returns
returns c =
    let old = c.args.out.now.items in
    joined-two old _ _ _ _ c.in_ok-write_numbered.ensures c.in_ok-write_packages.ensures
