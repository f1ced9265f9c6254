use Rattle.dist_report.proofs.LineLemmas.{joined-three}
use Rattle.dist_report.proofs.challenged_report.write_broken.Goals as goal

pub returns : goal.returns
returns c = joined-three c.args.out.now.items _ _ _ _ _ _ c.in_ok-write_numbered.ensures c.in_ok-write_class.ensures.text c.in_ok-write_packages.ensures
