use Rattle.std.proofs.Common.{ℕ, ◌+◌, ◌-◌, ◌/◌, arith}
use Rattle.dist_now.proofs.NumberLemmas.{rises-below, rises-from}
use Rattle.dist_now.proofs.numbers.place_from.Goals as goal

pub loop-low-preserved-then-numbers-middle : goal.loop-low-preserved-then-numbers-middle
loop-low-preserved-then-numbers-middle c =
    let middle : ℕ = c.loop-low.low + (c.loop-low.high - c.loop-low.low) / 2 in
    let test = c.loop-low-test.true in
    let i = c.loop-low.invariant in (
      omega (arith, test),
      i.1,
      (λ k less. rises-below c.args.numbers.now k middle c.args.bound c.requires (omega arith) (omega (arith, test, i.1)) c.if-numbers-middle.true),
      i.3,
    )

pub loop-low-preserved : goal.loop-low-preserved
loop-low-preserved c =
    let middle : ℕ = c.loop-low.low + (c.loop-low.high - c.loop-low.low) / 2 in
    let test = c.loop-low-test.true in
    let i = c.loop-low.invariant in (
      omega arith,
      omega (arith, test, i.1),
      i.2,
      λ k up short. rises-from c.args.numbers.now middle k c.args.bound c.requires up short c.if-numbers-middle.false,
    )
