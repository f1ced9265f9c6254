use Rattle.std.proofs.Common.{◌∙◌, ◌+◌, inl, inr, arith, refl, subst, sym}
use Rattle.std.proofs.lemmas.Bool.{false≢true, cases_eq}
use Rattle.dist_clause.specs.ClauseList.{clause_at}
use Rattle.dist_clause.specs.Formula.{MakesTrue}
use Rattle.dist_derive.proofs.DenialLemmas.{clause-is, model-clause}
use Rattle.dist_derive.proofs.inputs.hold.Goals as goal

pub returns-then-not-makes_clause_true : goal.returns-then-not-makes_clause_true
returns-then-not-makes_clause_true c = λ value gives. (
  (λ no. absurd (false≢true no)),
  λ model. absurd (false≢true (sym c.if-not-makes_clause_true.true
      ∙ (c.makes_clause_true.ensures value gives).1 (subst (MakesTrue value) (sym c.clause.ensures.value)
      (model-clause value c.args.clauses.now.clauses (c.loop-place.place + 1) (omega arith)
      (omega (arith, c.loop-place-test.true, c.len-place-end.ensures.value)) model)))),
)

pub loop-place-preserved : goal.loop-place-preserved
loop-place-preserved c = λ value gives number from to. elim (cases_eq number (c.loop-place.place + 1)) [
  | inl same ↦ subst (λ n. MakesTrue value (clause_at c.args.clauses.now.clauses n)) (sym same)
      (subst (MakesTrue value) c.clause.ensures.value ((c.makes_clause_true.ensures value gives).0 c.if-not-makes_clause_true.false))
  | inr apart ↦ c.loop-place.invariant value gives number from (omega (arith, to, apart))
]

pub returns : goal.returns
returns c = λ value gives. (
  (λ yes k d within. subst (MakesTrue value) (clause-is c.args.clauses.now.clauses k d within)
      (c.loop-place.invariant value gives (k + 1) (omega arith)
      (omega (arith, within, c.loop-place-test.false, c.len-place-end.ensures.value)))),
  λ model. refl,
)
