use Rattle.std.proofs.lemmas.Result.{err_from_is_err_and}
use Rattle.dist_clause.specs.DemandLaws.{cause-chain}
use Rattle.dist_space_clauses.specs.SpaceClauses.{IsDemand, space_demands}
use Rattle.dist_space_clauses.proofs.ThreeEnds.{three-ends}
use Rattle.dist_space_clauses.proofs.clauses.push_all.Goals as goal

pub returns-in_err-ends-clause-err : goal.returns-in_err-ends-clause-err
returns-in_err-ends-clause-err c =
    let p = err_from_is_err_and c.from_residual.result c.from_residual.ensures.1 in
    rw (p.1, p.2) c.in_err-ends.ensures.err

pub returns-in_err-push_required-clause-err : goal.returns-in_err-push_required-clause-err
returns-in_err-push_required-clause-err c =
    let s = c.args.space.now in
    let p = err_from_is_err_and c.from_residual-in_err-push_required.result c.from_residual-in_err-push_required.ensures.1 in
    let error = c.in_err-push_required.field-0.0 in
    let limits = c.args.set.now in
    rw (p.1, p.2) (cause-chain (space_demands s) _ (IsDemand s) limits.clause_limit limits.literal_limit c.push_found.new.set error c.in_ok-ends.ensures.ok
    c.in_err-push_required.ensures.err)

pub returns-clause-ends : goal.returns-clause-ends
returns-clause-ends c =
    three-ends c.args.space.now c.push_required.new.set.clauses c.in_ok-ends.ends c.in_ok-push_required.ensures.ok.clauses c.in_ok-ends.ensures.ends
