use Rattle.std.proofs.Common.{List, arith, ap, length, sym, subst}
use Rattle.dist_repo.specs.AskedPrivate.{AreAskedOfConflicts, AreAskedOfItems}
use Rattle.dist_repo.specs.Indexed.{IsIndex}
use Rattle.dist_repo.specs.Order.{IsInOrder}
use Rattle.dist_repo.specs.OwnPrivate.{AreCounted, AreOwn}
use Rattle.dist_repo.specs.declared.package.Package.{Package}
use Rattle.dist_repo.proofs.repository.Repository.from_packages.Goals as goal

pub tables_of-requires-clause-in_order : goal.tables_of-requires-clause-in_order
tables_of-requires-clause-in_order c =
    let Ordered : List Package → Type 0 = IsInOrder in
    subst Ordered (sym c.deref.ensures.value) c.requires.in_order

pub tables_of-requires-clause-few : goal.tables_of-requires-clause-few
tables_of-requires-clause-few c = omega (arith, ap (λ (list : List Package). length list) c.deref.ensures.value, c.requires.few)

pub invariant_of-result : goal.invariant_of-result
invariant_of-result c =
    let own = c.in-Ok.tables.first.first in
    let index = c.in-Ok.tables.first.second in
    let items = c.in-Ok.tables.second.first in
    let conflicts = c.in-Ok.tables.second.second in
    let Counted : List Package → Type 0 = λ packages. AreCounted (length packages) own.numbers.items in
    let Own : List Package → Type 0 = λ packages. AreOwn packages (length packages) own.offers.items in
    let Index : List Package → Type 0 = λ packages. IsIndex (record { architecture = c.args.architecture; packages = packages })
    index.names index.numbers index.offers in
    let Items : List Package → Type 0 = λ packages. AreAskedOfItems packages items in
    let Conflicts : List Package → Type 0 = λ packages. AreAskedOfConflicts packages conflicts in
    record {
      in_order = c.requires.in_order;
      few = c.requires.few;
      counted = subst Counted c.deref.ensures.value c.in-Ok.ensures.counted;
      own = subst Own c.deref.ensures.value c.in-Ok.ensures.own;
      index = subst Index c.deref.ensures.value c.in-Ok.ensures.index;
      asked_items = subst Items c.deref.ensures.value c.in-Ok.ensures.items;
      asked_conflicts = subst Conflicts c.deref.ensures.value c.in-Ok.ensures.conflicts;
    }
