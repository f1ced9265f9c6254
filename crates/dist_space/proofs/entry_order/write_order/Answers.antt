use Rattle.std.proofs.Common.{ℕ, rules}
use Rattle.std.specs.Ordering.{is_lt}
use Rattle.std.proofs.lemmas.Fn.{always_returns_same}
use Rattle.std.proofs.lemmas.List.Sorted.{ranks_by}
use Rattle.dist_space.specs.EntryOrder.{entry_cmp}
use Rattle.dist_space.proofs.EntryLemmas.{entry_total, order-from}
use Rattle.dist_space.proofs.entry_order.write_order.Goals as goal

pub returns : goal.returns
returns c =
    let architecture = c.args.frame.now.repository.architecture in
    let provides = c.args.provides.now in
    order-from architecture provides c.write_places.new.places.items c.sort_unstable_by.new.self.items c.in_ok-write_places.ensures
    c.sort_unstable_by.ensures.permutation
    (c.sort_unstable_by.ensures.sorted (λ i j. is_lt (entry_cmp architecture provides i j))
    (ranks_by (entry_total architecture provides) (λ (i : ℕ). i)) (always_returns_same _ _ _ (λ a r f' k. search rules)))
