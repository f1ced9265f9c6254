use Rattle.std.proofs.Common.{sym}
use Rattle.std.proofs.lemmas.Result.{err_from_is_err_and}
use Rattle.dist_clause.specs.DemandLaws.{cause-chain, set-chain}
use Rattle.dist_space_clauses.specs.SpaceClauses.{IsDemand, space_demands}
use Rattle.dist_space_clauses.proofs.clauses.push_plain.Goals as goal

pub returns-in_err-push_healthy-clause-err : goal.returns-in_err-push_healthy-clause-err
returns-in_err-push_healthy-clause-err c =
    let s = c.args.space.now in
    let p = err_from_is_err_and c.from_residual-in_err-push_healthy.result c.from_residual-in_err-push_healthy.ensures.1 in
    rw (p.1, p.2) (cause-chain (space_demands s) _ (IsDemand s) c.args.set.now.clause_limit c.args.set.now.literal_limit c.push_future.new.set _
    c.in_ok-push_future.ensures.ok c.in_err-push_healthy.ensures.err)

pub returns-in_err-push_group-clause-err : goal.returns-in_err-push_group-clause-err
returns-in_err-push_group-clause-err c =
    let s = c.args.space.now in
    let both = set-chain (space_demands s) _ _ c.args.set.now.clause_limit c.args.set.now.literal_limit c.push_future.new.set c.push_healthy.new.set
    c.in_ok-push_future.ensures.ok c.in_ok-push_healthy.ensures.ok in
    let p = err_from_is_err_and c.from_residual-in_err-push_group.result c.from_residual-in_err-push_group.ensures.1 in
    rw (p.1, p.2) (cause-chain (space_demands s) _ (IsDemand s) c.args.set.now.clause_limit c.args.set.now.literal_limit c.push_healthy.new.set _
    both c.in_err-push_group.ensures.err)

pub returns-clause-ends : goal.returns-clause-ends
returns-clause-ends c = record {
  early = record {
    front = c.push_future.new.set.clauses;
    are = c.in_ok-push_future.ensures.ok.clauses;
    count_is = sym c.len-early.ensures.value;
  };
  today = record {
    front = c.push_healthy.new.set.clauses;
    are = c.in_ok-push_healthy.ensures.ok.clauses;
    count_is = sym c.len-today.ensures.value;
  };
  after = record {
    front = c.push_group.new.set.clauses;
    are = c.in_ok-push_group.ensures.ok.clauses;
    count_is = sym c.len-after.ensures.value;
  };
}
