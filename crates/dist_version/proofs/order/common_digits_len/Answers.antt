use Rattle.std.proofs.Common.{arith, sym}
use Rattle.std.specs.Char.{is_ascii_digit}
use Rattle.std.proofs.lemmas.List.Sums.{prefix_len-le-length}
use Rattle.dist_version.proofs.InStep.{digit_more, digit_last}
use Rattle.dist_version.proofs.order.common_digits_len.Goals as goal

pub loop-end-preserved : goal.loop-end-preserved
loop-end-preserved c = (
  omega arith,
  digit_more c.args.a.now c.loop-end.end c.loop-end.invariant.1 (omega arith) (sym c.if-is_ascii_digit.ensures.value),
  digit_more c.args.b.now c.loop-end.end c.loop-end.invariant.2 (omega arith) (sym c.if-is_ascii_digit-2.ensures.value),
)

pub returns-else-is_ascii_digit-2-clause-value : goal.returns-else-is_ascii_digit-2-clause-value
returns-else-is_ascii_digit-2-clause-value c =
    let last = digit_last c.args.b.now c.loop-end.end (sym c.if-is_ascii_digit-2.ensures.value) in omega (arith, last)

pub returns-else-is_ascii_digit-clause-value : goal.returns-else-is_ascii_digit-clause-value
returns-else-is_ascii_digit-clause-value c =
    let last = digit_last c.args.a.now c.loop-end.end (sym c.if-is_ascii_digit.ensures.value) in omega (arith, last)

pub returns-after-loop-end-clause-value : goal.returns-after-loop-end-clause-value
returns-after-loop-end-clause-value c =
    omega (arith, c.loop-end.invariant, prefix_len-le-length is_ascii_digit c.args.a.now, prefix_len-le-length is_ascii_digit c.args.b.now)
