use Rattle.std.proofs.lemmas.Result.{IfErr-weaker}
use Rattle.dist_clause.specs.DemandLaws.{cause-chain}
use Rattle.dist_space_clauses.specs.SpaceClauses.{IsDemand, space_demands}
use Rattle.dist_space_clauses.proofs.clauses.push_healthy.Goals as goal

pub returns-clause-err : goal.returns-clause-err
returns-clause-err c =
    let s = c.args.space.now in
    IfErr-weaker c.push_group-2.result _ _ (λ error. cause-chain (space_demands s) _ (IsDemand s) c.args.set.now.clause_limit c.args.set.now.literal_limit
    c.push_group.new.set error c.in_ok-push_group.ensures.ok) c.push_group-2.ensures.err
