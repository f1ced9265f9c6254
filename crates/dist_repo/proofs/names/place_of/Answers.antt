use Rattle.std.proofs.Common.{arith}
use Rattle.dist_repo.proofs.NameSearch.{turn-up, turn-down, turn-found, between-none}
use Rattle.dist_repo.proofs.names.place_of.Goals as goal

pub loop-low-preserved-in-Less : goal.loop-low-preserved-in-Less
loop-low-preserved-in-Less c =
    let low = c.loop-low.low in
    let high = c.loop-low.high in
    turn-up c.args.names.now c.args.name.now c.get.result.now low high c.next_look-middle.result c.requires c.loop-low.invariant
    c.next_look-middle.ensures.from c.next_look-middle.ensures.to c.get.ensures c.in-Less.ensures

pub loop-low-preserved : goal.loop-low-preserved
loop-low-preserved c =
    let low = c.loop-low.low in
    let high = c.loop-low.high in
    turn-down c.args.names.now c.args.name.now c.get.result.now low high c.next_look-middle.result c.requires c.loop-low.invariant
    c.next_look-middle.ensures.from c.next_look-middle.ensures.to c.get.ensures c.in-Greater.ensures

pub returns-in-Equal : goal.returns-in-Equal
returns-in-Equal c =
    let short = c.next_look-middle.ensures.to in
    turn-found c.args.names.now c.args.name.now c.get.result.now c.next_look-middle.result (omega (arith, short, c.loop-low.invariant.within)) c.get.ensures
    c.in-Equal.ensures

pub returns : goal.returns
returns c = between-none c.args.names.now c.args.name.now c.loop-low.low c.loop-low.high c.loop-low-test.false c.loop-low.invariant
