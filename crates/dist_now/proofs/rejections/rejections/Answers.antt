use Rattle.std.proofs.Common.{ℕ, arith, rules, []}
use Rattle.std.proofs.lemmas.List.Sorted.{Contains-permutation, IsNonDecreasingBy-from_sort_by_key, IsPermutation-sym}
use Rattle.dist_now.proofs.AddsLemmas.{adds-more, adds-none}
use Rattle.dist_now.proofs.PairLemmas.{IsPairOfPackage, none-before, pairs-of, rejecting-all}
use Rattle.dist_now.proofs.rejections.rejections.Goals as goal

pub loop-number-init : goal.loop-number-init
loop-number-init c =
    rw c.new-pairs.ensures.items
    (adds-none [] (IsPairOfPackage c.args.repo.now c.args.span.start c.args.span.end) c.args.span.start
    (λ i x before. none-before c.args.repo.now c.args.span.start c.args.span.end i x before))

pub loop-number-preserved : goal.loop-number-preserved
loop-number-preserved c =
    adds-more [] c.loop-number.pairs.items c.add_rejected.new.pairs.items (IsPairOfPackage c.args.repo.now c.args.span.start c.args.span.end)
    c.loop-number.number c.loop-number.invariant
    (pairs-of c.args.repo.now c.args.span.start c.args.span.end c.loop-number.number c.package.result.now c.loop-number.pairs.items
    c.add_rejected.new.pairs.items c.package.ensures (c.in_ok-add_rejected.ensures.whole c.if-not-branch.false))

pub returns-clause-exact : goal.returns-clause-exact
returns-clause-exact c =
    let moved = c.sort_unstable_by_key.ensures.permutation in
    rejecting-all c.args.repo.now c.args.span.start c.args.span.end c.loop-number.number c.loop-number.pairs.items _
    (let e = c.len-number-end.ensures.value in omega (arith, e, c.loop-number-test.false)) c.loop-number.invariant
    (λ x h. Contains-permutation _ _ x (IsPermutation-sym _ _ moved) h) (λ x h. Contains-permutation _ _ x moved h)

pub returns-clause-in_order : goal.returns-clause-in_order
returns-clause-in_order c = IsNonDecreasingBy-from_sort_by_key (λ (pair : ℕ × ℕ). pair.0) _ c.sort_unstable_by_key.ensures.sorted (λ a r q k. search rules)
