use Rattle.std.proofs.Common.{◌∙◌, ◌+◌, List, arith, refl, subst, sym}
use Rattle.std.specs.List.{All, Contains}
use Rattle.std.proofs.lemmas.Bool.{false≢true}
use Rattle.dist_clause.specs.ClauseList.{clause_at}
use Rattle.dist_clause.specs.Formula.{Literal}
use Rattle.dist_derive.proofs.NewLinesLemmas.{numbers_more}
use Rattle.dist_derive.proofs.log.Log.has_lines.Goals as goal

pub returns-then-not-has_clause : goal.returns-then-not-has_clause
returns-then-not-has_clause c = (
  λ e. absurd (false≢true e),
  λ h. absurd (false≢true (sym c.if-not-has_clause.true ∙ c.has_clause.ensures.1
      (subst (λ (clause : List Literal). All (λ (l : Literal). Contains c.args.cone.now.members l.variable) clause) (sym c.clause.ensures.value)
      (h (c.loop-before.before + 1) (omega (arith, c.loop-before.auto.before))
      (omega (arith, c.loop-before-test.true, c.len-before-end.ensures.value)))))),
)

pub loop-before-preserved : goal.loop-before-preserved
loop-before-preserved c =
    let Within : List Literal → Type 0 = λ clause. All (λ (l : Literal). Contains c.args.cone.now.members l.variable) clause in
    numbers_more (λ number. Within (clause_at c.args.self.now.clauses number)) c.args.last c.loop-before.before c.loop-before.invariant
    (subst Within c.clause.ensures.value (c.has_clause.ensures.0 c.if-not-has_clause.false))

pub returns : goal.returns
returns c = (
  λ _ number above to. c.loop-before.invariant number above (omega (arith, to, c.loop-before-test.false, c.len-before-end.ensures.value)),
  λ _. refl,
)
