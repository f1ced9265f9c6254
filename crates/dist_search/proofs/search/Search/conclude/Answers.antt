use Rattle.std.proofs.Common.{◌≡◌, sym, subst, ap, ◌∙◌, arith}
use Rattle.dist_clause.specs.ClauseList.{clause_at}
use Rattle.dist_derive.specs.Propagation.{AllFalse}
use Rattle.dist_search.specs.Search.{SearchState, IsNewLine, IsSearching, IsGoing, Gives}
use Rattle.dist_search.specs.StepsPrivate.{IsAtConflict, IsPointAtLast, IsLevel}
use Rattle.dist_search.proofs.ConcludeLemmas.{at_last, lesson}
use Rattle.dist_search.proofs.search.Search.conclude.Goals as goal

pub learn-requires-clause-is_false : goal.learn-requires-clause-is_false
learn-requires-clause-is_false c =
    subst (λ (s : SearchState). AllFalse s.trail.literals (clause_at c.args.log.now.clauses c.args.number)) (sym c.self.view_is) c.requires.conflict.is_false

pub level_of-level-requires : goal.level_of-level-requires
level_of-level-requires c =
    let h = subst (λ s. IsAtConflict c.args.log.now.clauses c.args.assumptions.now c.args.cone.now.members s c.args.number) (sym c.self.view_is)
    c.requires.conflict in
    subst (λ clause. IsPointAtLast c.self.inside.trail clause) (sym c.clause.ensures)
    (at_last c.what_settles_a_clause.ensures.true_literal c.what_settles_a_clause.ensures.two_literals c.args.log.now c.args.assumptions.now
    c.args.cone.now.members c.keeps_invariant.ensures.within.over_variables c.keeps_invariant-2.ensures.ordered c.keeps_invariant-2.ensures.consistent h
    (omega (arith, c.if-levels-eq0.false, c.levels.ensures.value)) c.learn.new.self c.in_ok-learn.ensures.taught c.in_ok-learn.ensures.point)

pub returns-clause-ends : goal.returns-clause-ends
returns-clause-ends c =
    let log = c.args.log.now in
    let assumptions = c.args.assumptions.now in
    let members = c.args.cone.now.members in
    let h = subst (λ s. IsAtConflict log.clauses assumptions members s c.args.number) (sym c.self.view_is) c.requires.conflict in
    let same : c.self.inside.trail.variables ≡ log.variables = ap (λ (s : SearchState). s.trail.variables) c.self.view_is ∙ c.requires.same_variables in
    let level : IsLevel c.self.inside.trail c.learn.new.self.clause c.level_of-level.result =
    subst (λ clause. IsLevel c.self.inside.trail clause c.level_of-level.result) c.clause.ensures c.level_of-level.ensures in
    subst (λ s. IsNewLine log assumptions s.learned × IsSearching log.clauses assumptions members s × IsGoing log.clauses members s × Gives members s)
    (sym c.go_back.ensures)
    (lesson c.what_settles_a_clause.ensures.true_literal c.what_settles_a_clause.ensures.two_literals log assumptions members
    c.keeps_invariant.ensures.within.over_variables c.keeps_invariant-2.ensures.ordered c.keeps_invariant-2.ensures.consistent h
    (omega (arith, c.if-levels-eq0.false, c.levels.ensures.value)) c.learn.new.self c.in_ok-learn.ensures.taught c.in_ok-learn.ensures.point
    c.first_points_are_new.ensures.unset c.requires.cone c.requires.safe same level)
