use Rattle.dist_space_clauses.proofs.LedFronts.{leads-none, no-moves}
use Rattle.dist_space_clauses.proofs.led_clauses.push_moves.Goals as goal
use Rattle.std.proofs.Common.{arith}

pub returns-in_default : goal.returns-in_default
returns-in_default c = record {
  ok = leads-none c.args.space.now c.args.set.now c.args.set.now 2 c.args.variable c.meaning.result (omega arith)
      c.meaning.ensures.of (no-moves c.args.space.now c.meaning.result (λ k l is. c.in_default.not-New k l is) (λ k l j is. c.in_default.not-Kept k l j is))
      c.requires.front;
  err = tt;
}
