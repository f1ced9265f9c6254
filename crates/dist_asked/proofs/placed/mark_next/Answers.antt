use Rattle.std.proofs.Common.{arith}
use Rattle.dist_asked.proofs.MarkLemmas.{has-mark, marked-at, read-at, wider-itself}
use Rattle.dist_asked.proofs.placed.mark_next.Goals as goal

pub index_mut-requires : goal.index_mut-requires
index_mut-requires c =
    let p = c.index-placed-next-2.result in
    let is = read-at c.args.placed.now c.args.next p c.requires.next c.index-placed-next-2.is in
    let short = has-mark c.args.placed.now c.args.marks.now.items c.args.next p c.place-place.result is c.place-place.ensures c.requires.below in
    omega (arith, short, c.args.marks.now.ok.0)

pub returns-clause-marked : goal.returns-clause-marked
returns-clause-marked c =
    let p = c.index-placed-next-2.result in
    let is = read-at c.args.placed.now c.args.next p c.requires.next c.index-placed-next-2.is in
    marked-at c.args.placed.now c.args.marks.now.items c.args.next p c.place-place.result is c.place-place.ensures
    (has-mark c.args.placed.now c.args.marks.now.items c.args.next p c.place-place.result is c.place-place.ensures c.requires.below)

pub returns-clause-wider : goal.returns-clause-wider
returns-clause-wider c =
    let p = c.index-placed-next-2.result in
    wider-itself c.args.placed.now c.args.next p (read-at c.args.placed.now c.args.next p c.requires.next c.index-placed-next-2.is)
