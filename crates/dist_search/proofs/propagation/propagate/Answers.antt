use Rattle.std.proofs.Common.{IfNone, take, sym, subst}
use Rattle.dist_search.specs.Guard.{AreGuarded}
use Rattle.dist_search.specs.Trail.{TrailState}
use Rattle.dist_search.proofs.TakeLemmas.{taken_all, next_taking, next_advances}
use Rattle.dist_search.proofs.propagation.propagate.Goals as goal

pub take_literal-requires-clause-taking : goal.take_literal-requires-clause-taking
take_literal-requires-clause-taking c = next_taking c.args.log.now.clauses c.args.cone.now.members c.loop-literal.watches c.loop-literal.trail
    c.take_next.new.self c.in-Some.ensures.some.2 c.in-Some.literal c.in-Some.ensures.some.0 c.in-Some.ensures.some.1
    c.loop-literal.invariant.guarded

pub returns-in-Some-2-clause-advances : goal.returns-in-Some-2-clause-advances
returns-in-Some-2-clause-advances c = next_advances c.args.log.now.clauses c.args.cone.now.members c.loop-literal.watches c.loop-literal.trail
    c.take_next.new.self c.in-Some.ensures.some.2 c.args.watches.now c.take_literal.new.watches c.args.trail.now c.take_literal.new.trail
    c.loop-literal.invariant.advances c.in_ok-number.ensures.goes_on

pub loop-literal-preserved : goal.loop-literal-preserved
loop-literal-preserved c =
    let watches = c.take_literal.new.watches in
    let trail : TrailState = c.take_literal.new.trail in
    record {
      advances = next_advances c.args.log.now.clauses c.args.cone.now.members c.loop-literal.watches c.loop-literal.trail c.take_next.new.self
          c.in-Some.ensures.some.2 c.args.watches.now watches c.args.trail.now trail c.loop-literal.invariant.advances c.in_ok-number.ensures.goes_on;
      guarded = subst (λ found. IfNone found (AreGuarded watches c.args.log.now.clauses c.args.cone.now.members trail.literals
          (take trail.head trail.literals))) c.in_default-2.is c.in_ok-number.ensures.guarded;
    }

pub returns-clause-settled : goal.returns-clause-settled
returns-clause-settled c =
    let clauses = c.args.log.now.clauses in
    let cone = c.args.cone.now.members in
    let w = c.loop-literal.watches in
    subst (λ (s : TrailState). AreGuarded w clauses cone s.literals s.literals) (sym c.in_default.ensures.none.1)
    (taken_all clauses cone c.args.watches.now w c.args.trail.now c.loop-literal.trail c.loop-literal.invariant c.in_default.ensures.none.0)
