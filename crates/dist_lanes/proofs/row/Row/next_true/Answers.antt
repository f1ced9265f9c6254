use Rattle.std.proofs.Common.{arith}
use Rattle.dist_lanes.proofs.RowLemmas.{length-of, length-slice, value-is, next-some, next-none}
use Rattle.dist_lanes.proofs.row.Row.next_true.Goals as goal

pub next_bit-requires : goal.next_bit-requires
next_bit-requires c =
    omega (
      arith,
      length-of c.self.inside.words.items c.self.inside.places c.args.self.now c.self.view_is,
      length-slice c.self.inside.words.items c.deref.result.now c.self.inside.places c.args.self.now c.self.invariant c.self.view_is
          c.deref.ensures.value,
    )

pub returns-clause-some : goal.returns-clause-some
returns-clause-some c =
    next-some c.next_bit.result c.deref.result.now c.args.self.now c.args.from
    (λ k. value-is c.self.inside.words.items c.deref.result.now c.self.inside.places c.args.self.now k c.self.invariant c.self.view_is
    c.deref.ensures.value) c.next_bit.ensures.some

pub returns-clause-none : goal.returns-clause-none
returns-clause-none c =
    next-none c.next_bit.result c.deref.result.now c.args.self.now c.args.from
    (λ k. value-is c.self.inside.words.items c.deref.result.now c.self.inside.places c.args.self.now k c.self.invariant c.self.view_is
    c.deref.ensures.value) c.next_bit.ensures.none
