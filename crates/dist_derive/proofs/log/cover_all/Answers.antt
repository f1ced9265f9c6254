use Rattle.std.proofs.Common.{length-append, arith}
use Rattle.dist_derive.specs.ClauseLog.{joined}
use Rattle.dist_derive.specs.LogPrivate.{IsIndexed}
use Rattle.dist_derive.proofs.log.cover_all.Goals as goal
use Rattle.dist_derive.proofs.log.cover_all.Goals.{After-add}

added : (c : After-add) → IsIndexed c.args.inputs.now c.args.lines.now c.add.new.self
added c =
    let inputs = c.args.inputs.now in
    let lines = c.args.lines.now in
    record {
      same_variables = c.loop-place.invariant.0.same_variables;
      is_index = c.add.ensures.index (joined inputs lines).clauses c.loop-place.invariant.0.is_index
          (omega (arith, length-append inputs.clauses lines.clauses)) c.clause_of.ensures.value;
    }

pub add-requires-clause-distinct : goal.add-requires-clause-distinct
add-requires-clause-distinct c = c.clause_of.ensures.over_variables.distinct

pub returns-in_err-add : goal.returns-in_err-add
returns-in_err-add c = record { indexed = added (goal.at.returns-in_err-add c).After-add }

pub loop-place-preserved : goal.loop-place-preserved
loop-place-preserved c = (added (goal.at.loop-place-preserved c).After-add, c.in_ok-add.ensures.covered)
