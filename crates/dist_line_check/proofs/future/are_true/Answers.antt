use Rattle.std.proofs.Common.{◌+◌, ◌≤◌, ◌∙◌, arith, refl, subst, sym}
use Rattle.std.proofs.lemmas.Bool.{false≢true}
use Rattle.dist_clause.specs.ClauseList.{clause_at}
use Rattle.dist_clause.specs.Formula.{MakesTrue}
use Rattle.dist_line_check.proofs.RangeLemmas.{range-more}
use Rattle.dist_line_check.proofs.future.are_true.Goals as goal

pub loop-before-init : goal.loop-before-init
loop-before-init c = λ value gives number past upto. absurd (omega (arith, past, upto))

pub loop-before-preserved : goal.loop-before-preserved
loop-before-preserved c = λ value gives.
    range-more (λ number. MakesTrue value (clause_at c.args.log.now.clauses number)) c.args.behind c.loop-before.before
    (c.loop-before.invariant value gives)
    (subst (MakesTrue value) c.clause.ensures.value ((c.makes_true.ensures value gives).0 c.if-not-makes_true.false))

pub returns-then-not-makes_true : goal.returns-then-not-makes_true
returns-then-not-makes_true c = λ value gives.
    let low : c.args.behind ≤ c.loop-before.before = c.loop-before.auto.before in (
      (λ no. absurd (false≢true no)),
      λ all. absurd (false≢true (sym c.if-not-makes_true.true ∙ (c.makes_true.ensures value gives).1
          (subst (MakesTrue value) (sym c.clause.ensures.value)
          (all (c.loop-before.before + 1) (omega (arith, low)) (omega (arith, c.loop-before-test.true)))))),
    )

pub returns : goal.returns
returns c = λ value gives. (
  (λ yes number past upto. c.loop-before.invariant value gives number past (omega (arith, upto, c.loop-before-test.false))),
  λ all. refl,
)
