use Rattle.std.proofs.Common.{ℕ, ◌≤◌, ◌⊎◌, arith, take, sym, subst}
use Rattle.std.specs.List.{All, Contains}
use Rattle.std.proofs.lemmas.List.{take_all}
use Rattle.std.proofs.lemmas.List.Elements.{All-push}
use Rattle.dist_clause.specs.Formula.{Literal}
use Rattle.dist_derive.proofs.ValuedLemmas.{take_item, All-item}
use Rattle.dist_derive.proofs.variable_set.VariableSet.has_clause_or.Goals as goal

pub has_or-requires-clause-in_range : goal.has_or-requires-clause-in_range
has_or-requires-clause-in_range c = omega (
  arith,
  c.variable.ensures.value,
  All-item (λ (l : Literal). l.variable ≤ c.args.self.now.variables) c.args.clause.now
      c.loop-literal.literal-index c.literal-item.result c.loop-literal-test.true c.literal-item.is c.requires.over,
)

pub loop-literal-preserved : goal.loop-literal-preserved
loop-literal-preserved c =
    let i = c.loop-literal.literal-index in
    let l = c.literal-item.result in
    let In : ℕ → Type 0 = λ v. Contains c.args.self.now.members v ⊎ Contains c.args.other.now.members v in
    let Has : Literal → Type 0 = λ m. In m.variable in
    subst (All Has) (sym (take_item c.args.clause.now i l c.loop-literal-test.true c.literal-item.is))
    (All-push Has (take i c.args.clause.now) l c.loop-literal.invariant (subst In c.variable.ensures.value (c.has_or.ensures c.if-not-has_or.false)))

pub returns : goal.returns
returns c = λ _. subst (All (λ (m : Literal). Contains c.args.self.now.members m.variable ⊎ Contains c.args.other.now.members m.variable))
    (take_all c.loop-literal.literal-index c.args.clause.now c.loop-literal-test.false) c.loop-literal.invariant
