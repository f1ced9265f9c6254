use Rattle.std.proofs.Common.{◌+◌, ◌-◌, ◌∙◌, List, ℕ, subst, take}
use Rattle.dist_clause.specs.ClauseList.{clause_at}
use Rattle.dist_clause.specs.Formula.{Literal}
use Rattle.dist_derive.specs.New.{IsNew}
use Rattle.dist_derive.proofs.NewLinesLemmas.{numbers_more}
use Rattle.dist_derive.proofs.log.Log.each_is_new.Goals as goal

pub loop-before-preserved : goal.loop-before-preserved
loop-before-preserved c =
    let before = c.loop-before.before in
    let log = c.args.self.now in
    let WasNew : ℕ → Type 0 = λ number. IsNew (take (number - 1) log.clauses) log.inputs c.args.assumptions.now (clause_at log.clauses number) in
    let New : List Literal → Type 0 = λ clause. IsNew (take (before + 1 - 1) log.clauses) log.inputs c.args.assumptions.now clause in
    record {
      new = numbers_more WasNew c.args.last before c.loop-before.invariant.new
          (subst New c.clause.ensures.value (c.is_new.ensures.answer.0 c.if-not-is_new.false));
      ready = c.is_new.ensures.ready ∙ c.loop-before.invariant.ready;
    }
