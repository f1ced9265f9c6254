use Rattle.std.proofs.Common.{subst, sym, arith}
use Rattle.dist_clause.specs.ClauseList.{ClauseList, IsWithinLimits}
use Rattle.dist_clause.specs.Formula.{IsClauseOver}
use Rattle.dist_clause.specs.Stored.{stored_clauses}
use Rattle.dist_clause.proofs.SetLemmas.{IsWithinLimits-push}
use Rattle.dist_clause.proofs.clause_set.ClauseSet.push.Goals as goal

pub invariant_of-self-2 : goal.invariant_of-self-2
invariant_of-self-2 c =
    let set = stored_clauses c.self.inside in
    let over = subst (λ (s : ClauseList). IsClauseOver s.variables c.args.clause.now) (sym c.self.view_is) c.requires in
    let more = IsWithinLimits-push set c.args.clause.now c.self.invariant.within over (omega arith) (omega arith) in
    record {
      within = subst (λ clauses. IsWithinLimits (record set { clauses = clauses })) (sym c.in_default.ensures.ok) more;
      variables_stated = c.self.invariant.variables_stated;
      clauses_stated = c.self.invariant.clauses_stated;
      literals_stated = c.self.invariant.literals_stated;
    }
