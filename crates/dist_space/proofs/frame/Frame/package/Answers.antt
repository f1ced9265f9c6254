use Rattle.dist_space.proofs.SizeLemmas.{entries-few}
use Rattle.dist_space.proofs.frame.Frame.package.Goals as goal

pub returns-clause-few_entries : goal.returns-clause-few_entries
returns-clause-few_entries c = entries-few c.self.inside.repo c.args.number c.package.result.now c.self.invariant.size c.package.ensures
