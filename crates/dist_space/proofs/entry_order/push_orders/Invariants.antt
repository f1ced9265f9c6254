use Rattle.std.proofs.Common.{◌≡◌, ◌<◌, ℕ, [], Some, length, get_or, slice_get}
use Rattle.dist_repo.specs.declared.package.Package.{Package}
use Rattle.dist_space.specs.EntryOrder.{IsEntryOrder}
use Rattle.dist_space.proofs.entry_order.push_orders.Given as goal

-- those of the packages so far are in order
abbrev pub invariant-loop-number : goal.invariant-loop-number
invariant-loop-number l = record {
  counted : length l.orders ≡ l.number;
  each : (k : ℕ) → k < l.number → (p : Package) → slice_get l.frame.repository.packages k ≡ Some p
      → IsEntryOrder l.frame.repository.architecture p.provides (get_or l.orders k []);
}
