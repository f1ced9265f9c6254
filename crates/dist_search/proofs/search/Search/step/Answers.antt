use Rattle.std.proofs.Common.{◌≡◌, length, sym, subst, ap, ◌∙◌, IfNone}
use Rattle.dist_derive.specs.Propagation.{IsConsistent}
use Rattle.dist_search.specs.Trail.{IsOrdered}
use Rattle.dist_search.specs.Search.{SearchState, IsSearching}
use Rattle.dist_search.specs.StepsPrivate.{IsAtRest, AreValuesOf}
use Rattle.dist_search.proofs.DecideLemmas.{decided_more}
use Rattle.dist_search.proofs.ModelLemmas.{found}
use Rattle.dist_search.proofs.search.Search.step.Goals as goal

pub returns-then-decide-clause-searching : goal.returns-then-decide-clause-searching
returns-then-decide-clause-searching c =
    let clauses = c.args.log.now.clauses in
    let rest = subst (λ found. IfNone found (IsAtRest clauses c.args.assumptions.now c.args.cone.now.members c.find_conflict.new.self)) c.in_default.is
    c.in_ok-number.ensures.rest in
    let ordered = subst (λ (s : SearchState). IsOrdered s.trail) c.self.view_is c.keeps_invariant-2.ensures.ordered in
    let decided = c.if-decide.ensures in
    subst (λ s. IsSearching clauses c.args.assumptions.now c.args.cone.now.members s) (sym decided.1)
    (decided_more _ decided.0 clauses c.args.assumptions.now c.args.cone.now.members ordered rest decided.2)

pub returns-clause-ends : goal.returns-clause-ends
returns-clause-ends c =
    let log = c.args.log.now in
    let members = c.args.cone.now.members in
    let rest = subst (λ found. IfNone found (IsAtRest log.clauses c.args.assumptions.now members c.find_conflict.new.self)) c.in_default.is
    c.in_ok-number.ensures.rest in
    let consistent = subst (λ (s : SearchState). IsConsistent s.trail.literals) c.self.view_is c.keeps_invariant-2.ensures.consistent in
    let same = c.in_ok-number.ensures.same_variables ∙ c.requires.same_variables in
    let decided = c.if-decide.ensures in
    let to_start = ap (λ (s : SearchState). s.trail) (c.self-2.view_is ∙ decided.0) in
    let long = subst (λ t. length c.in_ok-values.values ≡ t.variables) to_start c.in_ok-values.ensures.length in
    let are = subst (λ t. AreValuesOf t.literals c.in_ok-values.values) to_start c.in_ok-values.ensures.values in
    found c.cone_models_extend.ensures c.what_settles_a_clause.ensures.true_literal c.what_settles_a_clause.ensures.two_literals log c.args.assumptions.now
    members _ c.in_ok-values.values c.requires.cone c.keeps_invariant.ensures.within.over_variables c.keeps_invariant.ensures.inputs same consistent rest
    decided.1 long are
