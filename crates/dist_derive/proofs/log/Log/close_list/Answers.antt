use Rattle.std.proofs.Common.{⊎_elim}
use Rattle.dist_derive.proofs.ReachLemmas.{closes_none, closes_more}
use Rattle.dist_derive.proofs.log.Log.close_list.Goals as goal

pub loop-link-init : goal.loop-link-init
loop-link-init c = closes_none c.args.self.now.clauses c.args.inputs c.args.index.now.links c.args.latest c.args.cone.now

pub loop-link-preserved : goal.loop-link-preserved
loop-link-preserved c = closes_more c.args.self.now.clauses c.args.inputs c.args.index.now.links c.args.latest c.loop-link.place c.args.cone.now
    c.loop-link.cone c.close_clause.new.cone c.in-Some.link c.loop-link.invariant c.in-Some.ensures.some.2 c.close_clause.ensures.reaches
    c.close_clause.ensures.closed

pub returns-clause-visited : goal.returns-clause-visited
returns-clause-visited c = λ number done listed to taken.
    ⊎_elim (λ w. w) (λ left. absurd (c.in_default.ensures.none number left)) (c.loop-link.invariant.waiting number done listed to taken)
