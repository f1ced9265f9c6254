use Rattle.std.proofs.Common.{ℕ, ◌+◌, ◌-◌, ◌/◌, arith}
use Rattle.dist_now.proofs.KeptPairs.{firsts-below, firsts-from}
use Rattle.dist_now.proofs.partners.place_of.Goals as goal

pub loop-low-preserved-then-pairs-middle : goal.loop-low-preserved-then-pairs-middle
loop-low-preserved-then-pairs-middle c =
    let middle : ℕ = c.loop-low.low + (c.loop-low.high - c.loop-low.low) / 2 in
    let test = c.loop-low-test.true in
    let i = c.loop-low.invariant in (
      omega (arith, test),
      i.1,
      (λ k d less short. firsts-below c.args.pairs.now c.args.number middle k d c.requires (omega arith) (omega (arith, test, i.1)) c.if-pairs-middle.true),
      i.3,
    )

pub loop-low-preserved : goal.loop-low-preserved
loop-low-preserved c =
    let middle : ℕ = c.loop-low.low + (c.loop-low.high - c.loop-low.low) / 2 in
    let test = c.loop-low-test.true in
    let i = c.loop-low.invariant in (
      omega arith,
      omega (arith, test, i.1),
      i.2,
      λ k d up short. firsts-from c.args.pairs.now c.args.number middle k d c.requires up short c.if-pairs-middle.false,
    )
