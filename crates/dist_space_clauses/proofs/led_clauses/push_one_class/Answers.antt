use Rattle.dist_space_clauses.specs.GroupsPrivate.{group_for}
use Rattle.dist_space_clauses.proofs.LedFronts.{few-classed, leads-none, no-later}
use Rattle.dist_space_clauses.proofs.led_clauses.push_one_class.Goals as goal

pub returns-in-None-clause-ok : goal.returns-in-None-clause-ok
returns-in-None-clause-ok c =
    leads-none c.args.space.now c.args.set.now c.args.set.now (group_for c.args.classed) c.args.variable c.meaning.result (few-classed c.args.classed)
    c.meaning.ensures.of (no-later c.args.space.now c.args.classed c.meaning.result (λ n k is. c.in-None.ensures n k is)) c.requires.front
