use Rattle.std.proofs.Common.{take, sym, subst, get_or}
use Rattle.std.specs.List.{All, Contains}
use Rattle.std.proofs.lemmas.List.{take_all, take_more}
use Rattle.std.proofs.lemmas.List.Elements.{All-push}
use Rattle.dist_derive.proofs.variable_set.VariableSet.has_each.Goals as goal

pub loop-variable-preserved : goal.loop-variable-preserved
loop-variable-preserved c =
    let i = c.loop-variable.variable-index in
    let all = c.args.variables.now in
    let In = Contains c.args.self.now.members in
    subst (All In) (sym (take_more all i 0 c.loop-variable-test.true))
    (All-push In (take i all) (get_or all i 0) c.loop-variable.invariant (c.contains.ensures.0 c.if-not-contains.false))

pub returns : goal.returns
returns c = λ _. subst (All (Contains c.args.self.now.members)) (take_all c.loop-variable.variable-index c.args.variables.now c.loop-variable-test.false)
    c.loop-variable.invariant
