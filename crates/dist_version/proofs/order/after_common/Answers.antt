use Rattle.std.proofs.Common.{◌-◌, length, length-take, take, ap, ap₂, ◌∙◌, arith}
use Rattle.std.proofs.lemmas.List.{take_rest}
use Rattle.dist_version.specs.Between.{ends_in_digit}
use Rattle.dist_version.specs.Order.{part_cmp}
use Rattle.dist_version.proofs.Fronts.{after_common, ends_without_digits}
use Rattle.dist_version.proofs.order.after_common.Goals as goal

pub returns-clause-order : goal.returns-clause-order
returns-clause-order c =
    let n = c.equal_len.result in
    let common = take n c.args.a.now in
    let end = length common - c.last_digits_len.result in
    let ends = ap (λ k. ends_in_digit (take (length common - k) common)) c.last_digits_len.ensures.value ∙ ends_without_digits common in
    ap₂ part_cmp (take_rest c.args.a.now end) (take_rest c.args.b.now end)
    ∙ after_common c.args.a.now c.args.b.now n end c.equal_len.ensures.same (omega (arith, length-take n c.args.a.now)) ends
