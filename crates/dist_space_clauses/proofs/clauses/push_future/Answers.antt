use Rattle.std.proofs.lemmas.Result.{IfErr-weaker, err_from_is_err_and}
use Rattle.dist_clause.specs.DemandLaws.{cause-chain, set-chain}
use Rattle.dist_space_clauses.specs.SpaceClauses.{IsDemand, space_demands}
use Rattle.dist_space_clauses.proofs.clauses.push_future.Goals as goal

pub returns-in_err-push_group-2-clause-err : goal.returns-in_err-push_group-2-clause-err
returns-in_err-push_group-2-clause-err c =
    let s = c.args.space.now in
    let p = err_from_is_err_and c.from_residual-in_err-push_group-2.result c.from_residual-in_err-push_group-2.ensures.1 in
    rw (p.1, p.2) (cause-chain (space_demands s) _ (IsDemand s) c.args.set.now.clause_limit c.args.set.now.literal_limit c.push_group.new.set _
    c.in_ok-push_group.ensures.ok c.in_err-push_group-2.ensures.err)

pub returns-clause-err : goal.returns-clause-err
returns-clause-err c =
    let s = c.args.space.now in
    let both = set-chain (space_demands s) _ _ c.args.set.now.clause_limit c.args.set.now.literal_limit c.push_group.new.set c.push_group-2.new.set
    c.in_ok-push_group.ensures.ok c.in_ok-push_group-2.ensures.ok in
    IfErr-weaker c.push_group-3.result _ _ (λ error. cause-chain (space_demands s) _ (IsDemand s) c.args.set.now.clause_limit c.args.set.now.literal_limit
    c.push_group-2.new.set error both) c.push_group-3.ensures.err
