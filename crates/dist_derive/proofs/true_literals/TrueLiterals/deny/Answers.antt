use Rattle.std.proofs.Common.{◌≡◌, ap, subst}
use Rattle.std.specs.List.{Contains}
use Rattle.dist_clause.specs.Formula.{Literal, negation}
use Rattle.dist_derive.specs.TrueLiterals.{LiteralList}
use Rattle.dist_derive.proofs.DenyLemmas.{not_denied}
use Rattle.dist_derive.proofs.true_literals.TrueLiterals.deny.Goals as goal

pub make_true-requires-clause-unset : goal.make_true-requires-clause-unset
make_true-requires-clause-unset c =
    let i = c.loop-literal.literal-index in
    let variable = ap (λ (l : Literal). l.variable) c.negated.ensures in
    let denied = ap (λ (t : LiteralList). t.literals) c.loop-literal.invariant in
    let none = λ (m : Literal) (same : m.variable ≡ c.literal-item.result.variable) (h : Contains c.loop-literal.self.literals m).
    not_denied c.args.self.now.variables c.args.clause.now i c.literal-item.result m c.requires.clause c.loop-literal-test.true c.literal-item.is same
    (subst (λ ts. Contains ts m) denied h) in
    (λ h. none c.negated.result variable h, λ h. none (negation c.negated.result) variable h)
