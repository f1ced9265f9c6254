use Rattle.std.proofs.Common.{Bool, true, false, subst, sym, refl}
use Rattle.std.proofs.lemmas.Result.{err_from_is_err_and}
use Rattle.dist_clause.specs.ClauseList.{ClauseList}
use Rattle.dist_now.specs.GatheringPrivate.{IsCauseAt, IsFront}
use Rattle.dist_now.specs.PresentClauses.{Item}
use Rattle.dist_now.specs.PresentSet.{IsCause}
use Rattle.dist_now.proofs.FrontLemmas.{cause-later, cause-too, front-start}
use Rattle.dist_now.proofs.present_clauses.made_clauses.Goals as goal

pub push_plain-requires-clause-front : goal.push_plain-requires-clause-front
push_plain-requires-clause-front c =
    let Front : ClauseList → Type 0 = λ set. IsFront c.args.repo.now (Item 0 0) set set in
    subst Front (sym c.new-set.ensures) (record {
      clauses = front-start c.args.repo.now;
      variables = c.len.ensures.value;
      clause_limit_is = refl;
      literal_limit_is = refl;
    })

pub returns-in_err-push_plain-clause-err : goal.returns-in_err-push_plain-clause-err
returns-in_err-push_plain-clause-err c =
    let p = err_from_is_err_and c.from_residual.result c.from_residual.ensures.1 in
    let error = c.in_err-push_plain.field-0.0 in
    rw (p.1, p.2) (cause-too c.args.repo.now c.args.essential c.args.clauses c.args.literals error
    (subst (λ (set : ClauseList). IsCauseAt c.args.repo.now false set error) c.new-set.ensures c.in_err-push_plain.ensures.err))

pub returns-in_err-push_names-clause-err : goal.returns-in_err-push_names-clause-err
returns-in_err-push_names-clause-err c =
    let p = err_from_is_err_and c.from_residual-in_err-push_names.result c.from_residual-in_err-push_names.ensures.1 in
    let error = c.in_err-push_names.field-0.0 in
    let cause = cause-later c.args.repo.now true _ c.new-set.result c.push_plain.new.set error c.in_ok-push_plain.ensures.ok c.in_err-push_names.ensures.err in
    let Essential : Bool → Type 0 = λ essential. IsCause c.args.repo.now essential c.args.clauses c.args.literals error in
    rw (p.1, p.2) (subst Essential (sym c.if-essential.true)
    (subst (λ (set : ClauseList). IsCauseAt c.args.repo.now true set error) c.new-set.ensures cause))
