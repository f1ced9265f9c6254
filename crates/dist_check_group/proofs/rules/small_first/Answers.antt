use Rattle.std.proofs.lemmas.List.Sorted.{Contains-permutation, IsPermutation-sym}
use Rattle.dist_check_group.proofs.rules.small_first.Goals as goal

pub returns : goal.returns
returns c =
    let moved = c.sort_unstable_by_key.ensures.permutation in
    λ q. (
      λ h. (c.in_ok-sorted.ensures q).0 (Contains-permutation _ _ q (IsPermutation-sym _ _ moved) h),
      λ h. Contains-permutation _ _ q moved ((c.in_ok-sorted.ensures q).1 h),
    )
