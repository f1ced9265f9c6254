use Rattle.std.proofs.Common.{◌≤◌, ◌||◌, take, sym, subst, arith}
use Rattle.std.proofs.lemmas.List.{take_all}
use Rattle.dist_clause.specs.Formula.{Literal}
use Rattle.dist_derive.specs.Marking.{Includes}
use Rattle.dist_derive.proofs.ValuedLemmas.{take_item, All-item}
use Rattle.dist_derive.proofs.GrowingLemmas.{IncludesSoFar, includes_none, includes_more}
use Rattle.dist_derive.proofs.variable_set.VariableSet.include_all.Goals as goal

pub loop-literal-init : goal.loop-literal-init
loop-literal-init c = includes_none c.args.self.now

pub include-grown-requires-clause-in_range : goal.include-grown-requires-clause-in_range
include-grown-requires-clause-in_range c =
    let here = All-item (λ (l : Literal). l.variable ≤ c.args.self.now.variables) c.args.clause.now c.loop-literal.literal-index c.literal-item.result
    c.loop-literal-test.true c.literal-item.is c.requires in
    omega (arith, here, c.variable.ensures.value, c.loop-literal.invariant.grows.same_variables)

pub loop-literal-preserved : goal.loop-literal-preserved
loop-literal-preserved c =
    let i = c.loop-literal.literal-index in
    let l = c.literal-item.result in
    let clause = c.args.clause.now in
    let step = subst (λ v. Includes c.loop-literal.self c.include-grown.new.self v c.include-grown.result) c.variable.ensures.value c.include-grown.ensures in
    let more = includes_more c.args.self.now c.loop-literal.self c.include-grown.new.self c.loop-literal.grown c.include-grown.result (take i clause) l
    c.loop-literal.invariant step in
    subst (λ xs. IncludesSoFar c.args.self.now c.include-grown.new.self (c.loop-literal.grown || c.include-grown.result) xs)
    (sym (take_item clause i l c.loop-literal-test.true c.literal-item.is)) more

pub returns : goal.returns
returns c =
    let all = subst (λ xs. IncludesSoFar c.args.self.now c.loop-literal.self c.loop-literal.grown xs)
    (take_all c.loop-literal.literal-index c.args.clause.now c.loop-literal-test.false) c.loop-literal.invariant in
    record { grows = all.grows; included = all.included; least = all.least }
