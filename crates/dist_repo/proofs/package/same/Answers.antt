use Rattle.std.proofs.Common.{rules}
use Rattle.dist_repo.specs.EqualityPrivate.{packages_decide}
use Rattle.dist_repo.proofs.package.same.Goals as goal

pub returns : goal.returns
returns c = let decides = packages_decide c.args.first.now c.args.second.now in search (rules, decides)
