use Rattle.std.proofs.Common.{◌≢◌, take, sym, subst}
use Rattle.std.proofs.lemmas.List.{take_all}
use Rattle.std.proofs.lemmas.List.Elements.{All-push}
use Rattle.dist_clause.specs.Formula.{Literal}
use Rattle.dist_derive.specs.Propagation.{IsFalse, OthersFalse}
use Rattle.dist_derive.proofs.ValuedLemmas.{take_item}
use Rattle.dist_derive.proofs.true_literals.TrueLiterals.free_in.Goals as goal

pub loop-place-preserved : goal.loop-place-preserved
loop-place-preserved c =
    let trues = c.args.self.now.literals in
    let clause = c.args.literals.now in
    let i = c.loop-place.place in
    let l = c.index-literals-place.result in
    subst (λ xs. OthersFalse trues xs c.args.one) (sym (take_item clause i l c.loop-place-test.true c.index-literals-place.is))
    (All-push (λ (m : Literal). m ≢ c.args.one → IsFalse trues m) (take i clause) l c.loop-place.invariant
    (c.is_other_free.ensures.no c.if-is_other_free.false))

pub returns-clause-none : goal.returns-clause-none
returns-clause-none c = subst (λ xs. OthersFalse c.args.self.now.literals xs c.args.one)
    (take_all c.loop-place.place c.args.literals.now c.loop-place-test.false) c.loop-place.invariant
