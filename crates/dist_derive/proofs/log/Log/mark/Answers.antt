use Rattle.std.proofs.Common.{◌≡◌, ℕ, ◌≤◌, true, length, take, ap, sym, subst, ◌∙◌, arith}
use Rattle.std.proofs.lemmas.List.Elements.{All-nil}
use Rattle.dist_clause.specs.ClauseList.{clause_at}
use Rattle.dist_derive.specs.VariableSet.{VariableList}
use Rattle.dist_derive.specs.Marking.{HasAll}
use Rattle.dist_derive.specs.OccurrencesPrivate.{Lists}
use Rattle.dist_derive.specs.ConePrivate.{WaitsIn}
use Rattle.dist_derive.proofs.GrowingLemmas.{ReachesSoFar, reaches_more, InCone-members}
use Rattle.dist_derive.proofs.ReachLemmas.{Reaches-then, WaitsIn-more, members_start, closed_end}
use Rattle.dist_derive.proofs.log.Log.mark.Goals as goal

pub loop-index-init : goal.loop-index-init
loop-index-init c =
    let clauses = c.args.self.now.clauses in
    let index = c.occurrences-index.result.now in
    let inputs = take c.args.inputs clauses in
    let assumed : ReachesSoFar inputs c.args.assumptions.now c.include_all.new.self = record {
      assumed = c.include_all.ensures.included;
      least = λ has assumed under. c.include_all.ensures.least has
          (subst (λ (s : VariableList). HasAll has s.members) (sym c.requires.empty) (All-nil (λ v. has v ≡ true))) assumed;
    } in
    record {
      so_far = reaches_more inputs c.args.assumptions.now c.include_all.new.self c.close_list.new.cone assumed c.close_list.ensures.reaches;
      same_variables = c.close_list.ensures.reaches.same_variables ∙ (c.include_all.ensures.grows.same_variables
          ∙ ap (λ (s : VariableList). s.variables) c.requires.empty);
      waiting = members_start clauses c.args.inputs index c.occurrences-index.ensures c.include_all.new.self c.close_list.new.cone
          c.close_list.ensures.reaches
          (subst (λ place. (number d : ℕ) → Lists index.links place number → number ≤ c.args.inputs → d ≤ length c.include_all.new.self.members
          → WaitsIn c.close_list.new.cone.members d (clause_at clauses number)) c.latest.ensures c.close_list.ensures.visited);
    }

pub loop-index-preserved : goal.loop-index-preserved
loop-index-preserved c =
    let clauses = c.args.self.now.clauses in
    let inputs = take c.args.inputs clauses in
    let mid = c.take_members.new.cone in
    let next = c.walk.new.cone in
    let step = Reaches-then inputs c.loop-index.cone mid next c.take_members.ensures.reaches c.walk.ensures.reaches in
    record {
      so_far = reaches_more inputs c.args.assumptions.now c.loop-index.cone next c.loop-index.invariant.so_far step;
      same_variables = step.same_variables ∙ c.loop-index.invariant.same_variables;
      waiting = λ number from covered to. subst (λ done. WaitsIn next.members done (clause_at clauses number)) (sym c.len-done.ensures.value)
          (WaitsIn-more inputs mid next (clause_at clauses number) (length mid.members) c.walk.ensures.reaches (omega arith)
          (c.take_members.ensures.closed number from covered to));
    }

pub returns-then-not-walk-clause-exact : goal.returns-then-not-walk-clause-exact
returns-then-not-walk-clause-exact c = λ v.
    let clauses = c.args.self.now.clauses in
    let inputs = take c.args.inputs clauses in
    let mid = c.take_members.new.cone in
    let end = c.walk.new.cone in
    let step = Reaches-then inputs c.loop-index.cone mid end c.take_members.ensures.reaches c.walk.ensures.reaches in
    let so_far = reaches_more inputs c.args.assumptions.now c.loop-index.cone end c.loop-index.invariant.so_far step in
    let closed = closed_end clauses c.args.inputs c.occurrences-index.result.now c.occurrences-index.ensures c.covered.result mid end c.covered.ensures
    (c.walk.ensures.grows.still c.if-not-walk.true) (c.walk.ensures.closed c.if-not-walk.true) c.take_members.ensures.closed in
    let same = InCone-members inputs c.args.assumptions.now end v so_far closed in
    (same.1, same.0)
