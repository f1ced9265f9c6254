use Rattle.std.proofs.Common.{List, sym, subst}
use Rattle.dist_repo.specs.Order.{IsInOrder}
use Rattle.dist_repo.specs.declared.package.Package.{Package}
use Rattle.dist_repo.proofs.HeldLemmas.{in-order, AreInOrder}
use Rattle.dist_repo.proofs.builder.Builder.finish.Goals as goal

pub returns-in_err-both-clause-in_order : goal.returns-in_err-both-clause-in_order
returns-in_err-both-clause-in_order c = subst AreInOrder c.self.view_is (in-order c.self.inside.packages.entries c.self.invariant.sorted)

pub from_packages-requires-clause-in_order : goal.from_packages-requires-clause-in_order
from_packages-requires-clause-in_order c =
    let Ordered : List Package → Type 0 = IsInOrder in
    let made = rw c.in_ok-both.ensures.second at c.in_order.ensures in
    subst Ordered (sym made) (in-order c.self.inside.packages.entries c.self.invariant.sorted)

pub returns-clause-in_order : goal.returns-clause-in_order
returns-clause-in_order c = subst AreInOrder c.self.view_is (in-order c.self.inside.packages.entries c.self.invariant.sorted)
