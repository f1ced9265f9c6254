use Rattle.std.proofs.Common.{ap, sym, subst, ◌∙◌, IfSome}
use Rattle.dist_derive.specs.ClauseLog.{ClauseLog}
use Rattle.dist_solver.specs.Kept.{IsReady}
use Rattle.dist_solver.proofs.search.Solver.look.Goals as goal

pub find_answer-answer-requires-clause-ready : goal.find_answer-answer-requires-clause-ready
find_answer-answer-requires-clause-ready c =
    let log = c.self.inside.entries in
    c.in_ok-search.ensures log c.variables.ensures.value
    (subst (λ kept. IfSome kept (IsReady log)) (sym c.take-kept.ensures.value) c.self.invariant.ready)

pub invariant_of-self-2 : goal.invariant_of-self-2
invariant_of-self-2 c =
    let answer = c.find_answer-answer.ensures in
    let variables = sym (ap (λ (l : ClauseLog). l.variables) answer.adds.log) in
    record {
      cone = c.mark_cone.ensures.same_variables ∙ (c.self.invariant.cone ∙ variables);
      guesses = c.self.invariant.guesses ∙ variables;
      lines_follow = answer.lines_follow;
      safe = answer.safe;
      ready = c.kept_after.ensures c.find_answer-answer.new.log answer.ready;
    }
