use Rattle.dist_clause.specs.ClauseList.{ClauseList}
use Rattle.dist_clause.specs.DemandLaws.{exactly-clauses, exactly-literals}
use Rattle.dist_space_clauses.specs.SpaceClauses.{IsDemand, space_demands}
use Rattle.dist_space_clauses.specs.declared.ends.FutureEnds.{FutureEnds}
use Rattle.dist_space_clauses.proofs.DemandOrder.{compared, orderly}
use Rattle.dist_space_clauses.proofs.clauses.clauses_with_ends.Goals as goal

pub returns-clause-too_many_clauses : goal.returns-clause-too_many_clauses
returns-clause-too_many_clauses c =
    let s = c.args.space.now in
    exactly-clauses (space_demands s) (orderly s) (IsDemand s) (compared s c.keeps_invariant.ensures.space) c.args.clauses c.args.literals
    (λ (made : ClauseList × FutureEnds). made.0) c.made_clauses.result c.made_clauses.ensures.ok c.made_clauses.ensures.within c.made_clauses.ensures.err

pub returns-clause-too_many_literals : goal.returns-clause-too_many_literals
returns-clause-too_many_literals c =
    let s = c.args.space.now in
    exactly-literals (space_demands s) (orderly s) (IsDemand s) (compared s c.keeps_invariant.ensures.space) c.args.clauses c.args.literals
    (λ (made : ClauseList × FutureEnds). made.0) c.made_clauses.result c.made_clauses.ensures.ok c.made_clauses.ensures.within c.made_clauses.ensures.err
