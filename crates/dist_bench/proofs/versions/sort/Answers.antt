use Rattle.std.proofs.Common.{rules, ap, is_lt}
use Rattle.std.proofs.lemmas.List.Sorted.{ranks_by, answers_always}
use Rattle.std.proofs.lemmas.Result.{on_ok_weaker}
use Rattle.dist_version.specs.Order.{version_cmp}
use Rattle.dist_version.specs.OrderLaws.{version_total}
use Rattle.dist_bench.proofs.versions.sort.Goals as goal

-- what `sort_by` gives, since the closure answers by the order of versions, which is total
pub returns-clause-sorted : goal.returns-clause-sorted
returns-clause-sorted c =
    on_ok_weaker c.sort_by.result
    (λ sorted. sorted (λ x y. is_lt (version_cmp x y)) (ranks_by version_total (λ x. x)) (answers_always _ _ _ (λ f a r g called. ap is_lt (search rules))))
    c.sort_by.ensures.sorted

pub returns-clause-stable : goal.returns-clause-stable
returns-clause-stable c =
    c.sort_by.ensures.stable (λ x y. is_lt (version_cmp x y)) (ranks_by version_total (λ x. x))
    (answers_always _ _ _ (λ f a r g called. ap is_lt (search rules)))
