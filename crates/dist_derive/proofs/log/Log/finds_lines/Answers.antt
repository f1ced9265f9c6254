use Rattle.std.proofs.Common.{◌≡◌, ◌∙◌, ap, subst, sym, take, true}
use Rattle.std.specs.List.{Contains}
use Rattle.std.proofs.lemmas.List.Elements.{All-contains, All-nil, All-weaker}
use Rattle.dist_clause.specs.ClauseList.{clause_at}
use Rattle.dist_clause.specs.Formula.{Literal}
use Rattle.dist_derive.specs.Cone.{InCone}
use Rattle.dist_derive.specs.Marking.{HasAll}
use Rattle.dist_derive.specs.VariableSet.{VariableList}
use Rattle.dist_derive.proofs.FarLemmas.{reached_within}
use Rattle.dist_derive.proofs.GrowingLemmas.{reaches_more}
use Rattle.dist_derive.proofs.log.Log.finds_lines.Goals as goal

pub loop-done-init : goal.loop-done-init
loop-done-init c = record {
  so_far = record {
    assumed = c.include_all.ensures.included;
    least = λ has assumed under. c.include_all.ensures.least has
        (subst (λ (s : VariableList). HasAll has s.members) (sym c.requires.empty) (All-nil (λ v. has v ≡ true))) assumed;
  };
  same_variables = c.include_all.ensures.grows.same_variables ∙ ap (λ (s : VariableList). s.variables) c.requires.empty;
  far = c.requires.far;
}

pub loop-done-preserved : goal.loop-done-preserved
loop-done-preserved c = record {
  so_far = reaches_more (take c.args.inputs c.args.self.now.clauses) c.args.assumptions.now c.loop-done.cone c.take_some.new.cone
      c.loop-done.invariant.so_far c.take_some.ensures.reaches;
  same_variables = c.take_some.ensures.reaches.same_variables ∙ c.loop-done.invariant.same_variables;
  far = c.loop-done.invariant.far;
}

pub returns-then-has_lines-clause-found : goal.returns-then-has_lines-clause-found
returns-then-has_lines-clause-found c = λ _ number above to.
    let inputs = take c.args.inputs c.args.self.now.clauses in
    let cone : VariableList = c.take_some.new.cone in
    let so_far = reaches_more inputs c.args.assumptions.now c.loop-done.cone cone c.loop-done.invariant.so_far c.take_some.ensures.reaches in
    All-weaker (λ (l : Literal). Contains cone.members l.variable) (λ (l : Literal). InCone inputs c.args.assumptions.now l.variable)
    (λ l h has assumed under. All-contains (λ v. has v ≡ true) cone.members l.variable (so_far.least has assumed under) h)
    (clause_at c.args.self.now.clauses number) (c.has_lines.ensures.0 c.if-has_lines.true number above to)

pub returns-then-has_lines-clause-far : goal.returns-then-has_lines-clause-far
returns-then-has_lines-clause-far c = c.loop-done.invariant.far

pub returns-then-done-gt-NEAR-clause-found : goal.returns-then-done-gt-NEAR-clause-found
returns-then-done-gt-NEAR-clause-found c = λ e. reached_within (take c.args.inputs c.args.self.now.clauses) c.args.self.now.clauses c.args.last
    c.args.assumptions.now c.take_some.new.cone
    (reaches_more (take c.args.inputs c.args.self.now.clauses) c.args.assumptions.now c.loop-done.cone c.take_some.new.cone c.loop-done.invariant.so_far
    c.take_some.ensures.reaches) (c.finds_far_lines.ensures.found e)

pub returns-clause-far : goal.returns-clause-far
returns-clause-far c = c.loop-done.invariant.far
