use Rattle.std.specs.Prelude.{Err, Ok}
use Rattle.std.proofs.lemmas.Result.{err_from_is_err_and}
use Rattle.dist_clause.specs.ClauseList.{ClauseList}
use Rattle.dist_clause.specs.DemandLaws.{exactly-clauses, exactly-literals}
use Rattle.dist_space_clauses.specs.SpaceClauses.{IsDemand, space_demands}
use Rattle.dist_space_clauses.proofs.DemandOrder.{compared, orderly}
use Rattle.dist_space_clauses.proofs.clauses.clauses_of.Goals as goal

pub returns-in_err-set-clause-too_many_clauses : goal.returns-in_err-set-clause-too_many_clauses
returns-in_err-set-clause-too_many_clauses c =
    let s = c.args.space.now in
    let p = err_from_is_err_and c.from_residual.result c.from_residual.ensures.1 in
    rw (p.1, p.2) (exactly-clauses (space_demands s) (orderly s) (IsDemand s) (compared s c.keeps_invariant.ensures.space) c.args.clauses c.args.literals
    (λ (set : ClauseList). set) (Err c.in_err-set.field-0.0) tt tt c.in_err-set.ensures.err)

pub returns-in_err-set-clause-too_many_literals : goal.returns-in_err-set-clause-too_many_literals
returns-in_err-set-clause-too_many_literals c =
    let s = c.args.space.now in
    let p = err_from_is_err_and c.from_residual.result c.from_residual.ensures.1 in
    rw (p.1, p.2) (exactly-literals (space_demands s) (orderly s) (IsDemand s) (compared s c.keeps_invariant.ensures.space) c.args.clauses c.args.literals
    (λ (set : ClauseList). set) (Err c.in_err-set.field-0.0) tt tt c.in_err-set.ensures.err)

pub returns-clause-too_many_clauses : goal.returns-clause-too_many_clauses
returns-clause-too_many_clauses c =
    let s = c.args.space.now in
    exactly-clauses (space_demands s) (orderly s) (IsDemand s) (compared s c.keeps_invariant.ensures.space) c.args.clauses c.args.literals
    (λ (set : ClauseList). set) (Ok c.in_ok-set.set) c.in_ok-set.ensures.ok c.in_ok-set.ensures.within tt

pub returns-clause-too_many_literals : goal.returns-clause-too_many_literals
returns-clause-too_many_literals c =
    let s = c.args.space.now in
    exactly-literals (space_demands s) (orderly s) (IsDemand s) (compared s c.keeps_invariant.ensures.space) c.args.clauses c.args.literals
    (λ (set : ClauseList). set) (Ok c.in_ok-set.set) c.in_ok-set.ensures.ok c.in_ok-set.ensures.within tt
