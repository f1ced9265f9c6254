use Rattle.std.proofs.Common.{◌<◌, ◌≤◌, length, subst, ◌∙◌, arith, IfNone}
use Rattle.dist_search.proofs.search.Search.next.Goals as goal

pub loop-end-init : goal.loop-end-init
loop-end-init c = record {
  searching = c.restart.ensures.searching c.args.log.now.clauses c.args.assumptions.now c.args.cone.now.members c.requires.searching;
  same_variables = c.restart.ensures.same_variables ∙ c.requires.same_variables;
}

pub loop-end-smaller : goal.loop-end-smaller
loop-end-smaller c =
    let longer = subst (λ r. IfNone r (length c.loop-end.self.trail.literals < length c.step.new.self.trail.literals))
    c.in_default.is c.in_ok-end.ensures.longer in
    let few = subst (λ r. IfNone r (length c.step.new.self.trail.literals ≤ c.step.new.self.trail.variables)) c.in_default.is c.in_ok-end.ensures.few in
    omega (arith, longer, few, c.in_ok-end.ensures.same_variables)
