use Rattle.std.proofs.Common.{⊎_elim, take}
use Rattle.dist_derive.proofs.WaitLemmas.{Propagates-then}
use Rattle.dist_derive.proofs.QueueLemmas.{visits_none, visits_more}
use Rattle.dist_derive.proofs.log.Log.visit.Goals as goal

pub loop-link-init : goal.loop-link-init
loop-link-init c = visits_none c.args.self.now.clauses c.args.last c.args.index.now.links c.args.latest c.args.literals.now

pub loop-link-preserved : goal.loop-link-preserved
loop-link-preserved c =
    visits_more c.args.self.now.clauses c.args.last c.args.index.now.links c.args.latest c.loop-link.place c.args.literals.now
    c.loop-link.literals c.look_at.new.literals c.in-Some.link c.loop-link.invariant c.in-Some.ensures.some.2 c.look_at.ensures.grows
    (c.look_at.ensures.is_open c.if-not-look_at.false)

pub returns-then-not-look_at-clause-grows : goal.returns-then-not-look_at-clause-grows
returns-then-not-look_at-clause-grows c = Propagates-then (take c.args.last c.args.self.now.clauses) c.args.literals.now c.loop-link.literals
    c.look_at.new.literals c.loop-link.invariant.grows c.look_at.ensures.grows

pub returns-clause-visited : goal.returns-clause-visited
returns-clause-visited c = λ _ number done listed to taken.
    ⊎_elim (λ w. w) (λ left. absurd (c.in_default.ensures.none number left)) (c.loop-link.invariant.waiting number done listed to taken)
