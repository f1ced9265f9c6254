use Rattle.std.proofs.Common.{◌≡◌, ◌+◌, ◌-◌, ◌∙◌, List, take, reverse, ap, subst, sym, arith}
use Rattle.dist_clause.specs.Formula.{Literal}
use Rattle.dist_clause.specs.ClauseList.{clause_at}
use Rattle.dist_derive.specs.ClauseLog.{inputs_of}
use Rattle.dist_derive.specs.Propagation.{AllFalse}
use Rattle.dist_search.specs.Learned.{IsPoint, IsTaught}
use Rattle.dist_search.specs.AnalysisPrivate.{WalkState, LeadsToPoint}
use Rattle.dist_search.proofs.LearnLemmas.{taught_end, point_end}
use Rattle.dist_search.proofs.analysis.Analysis.learn.Goals as goal

pub loop-place-preserved : goal.loop-place-preserved
loop-place-preserved c =
    let place = c.loop-place.place in
    let again : place - 1 + 1 ≡ place = omega (arith, c.loop-place-test.true) in (
      omega (arith, c.loop-place.invariant.0),
      c.in_ok-take.ensures.walked,
      λ late. c.in_ok-take.ensures.point
          (subst (λ k. LeadsToPoint c.args.trail.now.literals c.bounds_of-bounds.result.current k c.loop-place.self-inside.walk) (sym again)
          (c.loop-place.invariant.2 late)),
    )

pub returns-clause-taught : goal.returns-clause-taught
returns-clause-taught c =
    let log = c.args.log.now in
    let trail = c.args.trail.now in
    let walk = c.loop-place.self-inside.walk in
    let h = c.loop-place.invariant.1 in
    let assumed = ap (λ n. take n trail.literals) c.bounds_of-bounds.ensures.assumed ∙ c.requires.trail.assumed in
    subst (λ (w : WalkState). IsTaught log c.args.assumptions.now trail (record { variables = w.variables; clause = w.clause; hints = w.hints }))
    (sym c.finish.ensures) (subst (λ (xs : List Literal). IsTaught log xs trail (record {
      variables = walk.variables;
      clause = walk.clause;
      hints = reverse walk.hints;
    })) assumed
    (taught_end log (take c.bounds_of-bounds.result.assumed trail.literals) trail c.bounds_of-bounds.result.current c.loop-place.place walk h
    (omega (arith, c.loop-place-test.false, c.earliest.ensures)) (omega (arith, c.keeps_invariant.ensures.few, c.requires.trail_variables))
    (λ one other s. c.what_is_safe.ensures.any_order (inputs_of log) h.resolves.resolvent walk.clause one other s)))

pub returns-clause-point : goal.returns-clause-point
returns-clause-point c = λ level few late.
    let trail = c.args.trail.now in
    let walk = c.loop-place.self-inside.walk in
    let current = c.bounds_of-bounds.result.current in
    let is = c.bounds_of-bounds.ensures.bounds.last level few in
    subst (λ s. IsPoint trail s c.finish.new.self.clause) is (subst (λ (w : WalkState). IsPoint trail current w.clause) (sym c.finish.ensures)
    (point_end c.args.log.now (take c.bounds_of-bounds.result.assumed trail.literals) trail current c.loop-place.place walk c.loop-place.invariant.1
    (omega (arith, c.loop-place-test.false, c.earliest.ensures))
    (c.loop-place.invariant.2 (subst (λ s. ¬ AllFalse (take s trail.literals) (clause_at c.args.log.now.clauses c.args.conflict)) (sym is) late))))
