use Rattle.std.proofs.Common.{take, refl, sym, subst, ◌∙◌}
use Rattle.std.specs.List.{All, Contains}
use Rattle.std.proofs.lemmas.Bool.{false≢true}
use Rattle.std.proofs.lemmas.List.{take_all}
use Rattle.std.proofs.lemmas.List.Elements.{All-push}
use Rattle.dist_clause.specs.Formula.{Literal}
use Rattle.dist_derive.proofs.ValuedLemmas.{take_item, All-item}
use Rattle.dist_derive.proofs.variable_set.VariableSet.has_clause.Goals as goal

pub returns-then-not-contains : goal.returns-then-not-contains
returns-then-not-contains c = (
  λ e. absurd (false≢true e),
  λ all.
      let here = All-item (λ (l : Literal). Contains c.args.self.now.members l.variable) c.args.clause.now c.loop-literal.literal-index c.literal-item.result
      c.loop-literal-test.true c.literal-item.is all in
      let yes = c.contains.ensures.1 (subst (λ v. Contains c.args.self.now.members v) (sym c.variable.ensures.value) here) in
      absurd (false≢true (sym c.if-not-contains.true ∙ yes)),
)

pub loop-literal-preserved : goal.loop-literal-preserved
loop-literal-preserved c =
    let i = c.loop-literal.literal-index in
    let l = c.literal-item.result in
    let clause = c.args.clause.now in
    let here = subst (λ v. Contains c.args.self.now.members v) c.variable.ensures.value (c.contains.ensures.0 c.if-not-contains.false) in
    subst (λ xs. All (λ (m : Literal). Contains c.args.self.now.members m.variable) xs) (sym (take_item clause i l c.loop-literal-test.true c.literal-item.is))
    (All-push (λ (m : Literal). Contains c.args.self.now.members m.variable) (take i clause) l c.loop-literal.invariant here)

pub returns : goal.returns
returns c = (
  λ _. subst (λ xs. All (λ (m : Literal). Contains c.args.self.now.members m.variable) xs)
      (take_all c.loop-literal.literal-index c.args.clause.now c.loop-literal-test.false) c.loop-literal.invariant,
  λ _. refl,
)
