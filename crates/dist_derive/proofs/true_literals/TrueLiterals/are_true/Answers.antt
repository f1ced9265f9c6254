use Rattle.std.proofs.Common.{take, sym, subst}
use Rattle.std.specs.List.{Contains}
use Rattle.std.proofs.lemmas.List.{take_all}
use Rattle.std.proofs.lemmas.List.Elements.{All-push}
use Rattle.dist_derive.specs.ContainmentPrivate.{ContainsAll}
use Rattle.dist_derive.proofs.ValuedLemmas.{take_item}
use Rattle.dist_derive.proofs.true_literals.TrueLiterals.are_true.Goals as goal

pub loop-literal-preserved : goal.loop-literal-preserved
loop-literal-preserved c =
    let trues = c.args.self.now.literals in
    let literals = c.args.literals.now in
    let i = c.loop-literal.literal-index in
    let l = c.literal-item.result in
    subst (λ xs. ContainsAll trues xs) (sym (take_item literals i l c.loop-literal-test.true c.literal-item.is))
    (All-push (Contains trues) (take i literals) l c.loop-literal.invariant (c.is_true.ensures c.if-not-is_true.false))

pub returns : goal.returns
returns c = λ _. subst (λ xs. ContainsAll c.args.self.now.literals xs)
    (take_all c.loop-literal.literal-index c.args.literals.now c.loop-literal-test.false) c.loop-literal.invariant
