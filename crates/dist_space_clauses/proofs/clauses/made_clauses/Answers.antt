use Rattle.std.proofs.Common.{subst, sym}
use Rattle.dist_clause.specs.ClauseList.{ClauseList}
use Rattle.dist_space_clauses.specs.GatheringPrivate.{IsCauseAt, IsGroupsFront}
use Rattle.dist_space_clauses.proofs.GroupFronts.{groups-none}
use Rattle.dist_space_clauses.proofs.clauses.made_clauses.Goals as goal

pub push_all-pushed-requires : goal.push_all-pushed-requires
push_all-pushed-requires c = record {
  front = subst (λ (set : ClauseList). IsGroupsFront c.args.space.now 1 set set) (sym c.new-set.ensures)
      (groups-none c.args.space.now c.variables.result c.args.clauses c.args.literals c.variables.ensures.value);
}

pub returns-in-Err-clause-err : goal.returns-in-Err-clause-err
returns-in-Err-clause-err c =
    subst (λ (set : ClauseList). IsCauseAt c.args.space.now set c.in-Err.error) c.new-set.ensures c.in-Err.ensures.err
