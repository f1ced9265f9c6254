use Rattle.std.proofs.Common.{take, sym, subst}
use Rattle.std.specs.List.{All}
use Rattle.std.proofs.lemmas.List.{take_all}
use Rattle.std.proofs.lemmas.List.Elements.{All-push, All-weaker}
use Rattle.dist_clause.specs.Formula.{Literal}
use Rattle.dist_derive.specs.OccurrencesPrivate.{code_of, IsListed}
use Rattle.dist_derive.proofs.ValuedLemmas.{take_item}
use Rattle.dist_derive.proofs.OccurrenceLemmas.{Extends-then}
use Rattle.dist_derive.proofs.occurrences.Occurrences.put_literals.Goals as goal

pub loop-literal-preserved : goal.loop-literal-preserved
loop-literal-preserved c =
    let i = c.loop-literal.literal-index in
    let l = c.literal-item.result in
    let step = c.in_ok-put.ensures.extends in
    let now = λ (m : Literal). IsListed c.put.new.self (code_of m) c.args.number in (
      Extends-then c.args.self.now c.loop-literal.self c.put.new.self c.args.number c.loop-literal.invariant.0 step,
      subst (λ xs. All now xs) (sym (take_item c.args.clause.now i l c.loop-literal-test.true c.literal-item.is))
          (All-push now (take i c.args.clause.now) l
          (All-weaker (λ m. IsListed c.loop-literal.self (code_of m) c.args.number) now (λ m h. step.kept (code_of m) c.args.number h)
          (take i c.args.clause.now) c.loop-literal.invariant.1)
          (subst (λ k. IsListed c.put.new.self k c.args.number) c.code_of.ensures c.in_ok-put.ensures.listed)),
    )

pub returns-clause-listed : goal.returns-clause-listed
returns-clause-listed c = subst (λ xs. All (λ (m : Literal). IsListed c.loop-literal.self (code_of m) c.args.number) xs)
    (take_all c.loop-literal.literal-index c.args.clause.now c.loop-literal-test.false) c.loop-literal.invariant.1
