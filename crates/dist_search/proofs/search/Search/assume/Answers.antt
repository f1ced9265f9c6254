use Rattle.std.proofs.Common.{◌∙◌, ap, subst, sym}
use Rattle.dist_derive.specs.Propagation.{IsUnset}
use Rattle.dist_search.proofs.QuestionLemmas.{no_literal, unset_before}
use Rattle.dist_search.proofs.search.Search.assume.Goals as goal

pub loop-literal-init : goal.loop-literal-init
loop-literal-init c =
    let none = ap (λ s. s.trail.literals) c.self.view_is ∙ c.requires.none in
    let no_reason = ap (λ s. s.trail.reasons) c.self.view_is ∙ c.requires.no_reason in
    ap (λ t. record c.self.inside { trail = t }) (no_literal c.self.inside.trail none no_reason)

pub push-requires-clause-unset : goal.push-requires-clause-unset
push-requires-clause-unset c =
    let same = ap (λ t. t.trail.literals) c.loop-literal.invariant in
    subst (λ trues. IsUnset trues c.literal-item.result) (sym same)
    (unset_before c.args.self.now.trail.variables c.args.assumptions.now c.loop-literal.literal-index c.literal-item.result c.requires.assumptions
    c.loop-literal-test.true c.literal-item.is)
