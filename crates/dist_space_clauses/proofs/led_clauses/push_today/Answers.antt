use Rattle.std.proofs.Common.{arith}
use Rattle.std.proofs.lemmas.Bool.{false≢true}
use Rattle.dist_space_clauses.proofs.LedFronts.{leads-none, no-today}
use Rattle.dist_space_clauses.proofs.led_clauses.push_today.Goals as goal

pub returns-clause-ok : goal.returns-clause-ok
returns-clause-ok c =
    leads-none c.args.space.now c.args.set.now c.args.set.now 6 c.args.variable c.meaning-meaning.result (omega arith) c.meaning-meaning.ensures.of
    (no-today c.args.space.now c.meaning-meaning.result (λ change. false≢true (c.if-is_change.ensures.1 change))) c.requires.front
