use Rattle.std.proofs.Common.{◌+◌, ◌-◌, ◌/◌, arith}
use Rattle.dist_archive.proofs.SearchLemmas.{between-down, between-none, between-up, middle-named}
use Rattle.dist_archive.proofs.finding.number_named.Goals as goal

pub loop-low-preserved-in-Less : goal.loop-low-preserved-in-Less
loop-low-preserved-in-Less c =
    let low = c.loop-low.low in
    let high = c.loop-low.high in
    between-up c.args.repo.now.packages c.len-high.ensures.in_order c.args.name.now low high (low + (high - low) / 2) c.package.result.now
    c.loop-low.invariant (omega arith) (omega arith) c.package.ensures (rw c.bytes.ensures.value at c.in-Less.ensures)

pub loop-low-preserved : goal.loop-low-preserved
loop-low-preserved c =
    let low = c.loop-low.low in
    let high = c.loop-low.high in
    between-down c.args.repo.now.packages c.len-high.ensures.in_order c.args.name.now low high (low + (high - low) / 2) c.package.result.now
    c.loop-low.invariant (omega arith) (omega arith) c.package.ensures (rw c.bytes.ensures.value at c.in-Greater.ensures)

pub returns-in-Equal : goal.returns-in-Equal
returns-in-Equal c =
    let low = c.loop-low.low in
    let high = c.loop-low.high in
    middle-named c.args.repo.now.packages c.args.name.now (low + (high - low) / 2) c.package.result.now c.package.ensures
    (rw c.bytes.ensures.value at c.in-Equal.ensures)

pub returns : goal.returns
returns c =
    between-none c.args.repo.now.packages c.args.name.now c.loop-low.low c.loop-low.high c.loop-low-test.false c.loop-low.invariant
