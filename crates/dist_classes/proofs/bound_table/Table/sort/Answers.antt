use Rattle.std.proofs.Common.{◌↔◌, ℕ, List, rules, subst}
use Rattle.std.specs.Prelude.{Contains}
use Rattle.std.specs.Ordering.{is_lt}
use Rattle.std.proofs.lemmas.Fn.{always_returns_same}
use Rattle.std.proofs.lemmas.List.Sorted.{ranks_by}
use Rattle.dist_classes.specs.Table.{Entries, Entry, bound_cmp}
use Rattle.dist_classes.proofs.BoundLemmas.{bound_total, table-sorted}
use Rattle.dist_classes.proofs.bound_table.Table.sort.Goals as goal

pub returns-clause-sorted : goal.returns-clause-sorted
returns-clause-sorted c =
    c.sort_unstable_by.ensures.sorted (λ a b. is_lt (bound_cmp a b)) (ranks_by bound_total (λ (b : Entry). b))
    (always_returns_same _ _ _ (λ a r f' k. search rules))

pub returns-clause-same : goal.returns-clause-same
returns-clause-same c =
    let new : Entries = c.sort_unstable_by.new.self.items in
    let Same : Entries → Type 0 = λ old. (q v : List ℕ) → Contains new (q, v) ↔ Contains old (q, v) in
    subst Same c.self.view_is (table-sorted c.self.inside.bounds.items new c.sort_unstable_by.ensures.permutation)
