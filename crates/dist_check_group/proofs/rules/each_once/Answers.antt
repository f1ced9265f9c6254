use Rattle.std.proofs.Common.{◌≡◌, List, ℕ, subst, sym}
use Rattle.std.specs.List.{Contains}
use Rattle.std.proofs.lemmas.List.Filters.{dedup_is}
use Rattle.std.proofs.lemmas.List.Kept.{Contains-dedup_nat, Contains-from_dedup}
use Rattle.std.proofs.lemmas.List.Sorted.{Contains-permutation, IsPermutation-sym}
use Rattle.dist_check_group.proofs.rules.each_once.Goals as goal

pub returns : goal.returns
returns c =
    let is = dedup_is _ _ _ c.dedup.ensures.filtered in
    let moved = c.sort_unstable.ensures.permutation in
    let same : c.in_ok-sorted.sorted.items ≡ c.args.numbers.now = c.in_ok-sorted.ensures.items_if_clones_equal (λ x y h. h) in
    λ k. (
      λ h. subst (λ (xs : List ℕ). Contains xs k) same (Contains-permutation _ _ k (IsPermutation-sym _ _ moved) (Contains-from_dedup _ _ k (rw is at h))),
      λ h. rw is (Contains-dedup_nat _ k (Contains-permutation _ _ k moved (subst (λ (xs : List ℕ). Contains xs k) (sym same) h))),
    )
