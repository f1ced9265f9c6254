use Rattle.dist_clause.specs.ClauseList.{ClauseList}
use Rattle.dist_clause.specs.DemandLaws.{exactly-clauses, exactly-literals}
use Rattle.dist_now.specs.PresentClauses.{IsDemand, present_demands}
use Rattle.dist_now.proofs.DemandLists.{compared, orderly}
use Rattle.dist_now.proofs.present_clauses.clauses_of.Goals as goal

pub returns-clause-too_many_clauses : goal.returns-clause-too_many_clauses
returns-clause-too_many_clauses c =
    exactly-clauses (present_demands c.args.repo.now) (orderly c.args.repo.now) (IsDemand c.args.repo.now c.args.essential)
    (λ d e is_d is_e. compared c.args.repo.now d e) c.args.clauses c.args.literals (λ (set : ClauseList). set) c.made_clauses.result c.made_clauses.ensures.ok
    c.made_clauses.ensures.within c.made_clauses.ensures.err

pub returns-clause-too_many_literals : goal.returns-clause-too_many_literals
returns-clause-too_many_literals c =
    exactly-literals (present_demands c.args.repo.now) (orderly c.args.repo.now) (IsDemand c.args.repo.now c.args.essential)
    (λ d e is_d is_e. compared c.args.repo.now d e) c.args.clauses c.args.literals (λ (set : ClauseList). set) c.made_clauses.result c.made_clauses.ensures.ok
    c.made_clauses.ensures.within c.made_clauses.ensures.err
