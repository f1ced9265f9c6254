use Rattle.std.proofs.Common.{◌⊎◌, List, arith, subst}
use Rattle.std.specs.List.{All, Contains}
use Rattle.dist_clause.specs.ClauseList.{clause_at}
use Rattle.dist_clause.specs.Formula.{Literal}
use Rattle.dist_derive.proofs.NewLinesLemmas.{numbers_more}
use Rattle.dist_derive.proofs.log.Log.are_in_either.Goals as goal

pub loop-before-preserved : goal.loop-before-preserved
loop-before-preserved c =
    let Within : List Literal → Type 0 = All (λ (l : Literal). Contains c.args.cone.now.members l.variable ⊎ Contains c.args.far.now.members l.variable) in
    numbers_more (λ number. Within (clause_at c.args.self.now.clauses number)) c.args.last c.loop-before.before c.loop-before.invariant
    (subst Within c.clause.ensures.value (c.has_clause_or.ensures c.if-not-has_clause_or.false))

pub returns : goal.returns
returns c = λ _ number above to. c.loop-before.invariant number above (omega (arith, to, c.loop-before-test.false, c.len-before-end.ensures.value))
