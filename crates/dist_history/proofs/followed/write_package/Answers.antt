use Rattle.std.proofs.Common.{arith}
use Rattle.dist_history.proofs.FollowLemmas.{no-package}
use Rattle.dist_history.proofs.followed.write_package.Goals as goal

pub returns-else-number-package_count : goal.returns-else-number-package_count
returns-else-number-package_count c =
    no-package c.args.space.now.repository.packages c.args.number c.args.out.now.items
    (omega (arith, c.package_count.ensures, c.if-number-package_count.false))
