use Rattle.std.proofs.Common.{◌-◌, ◌<◌, [], length, get_or, ap, sym, subst, arith}
use Rattle.std.proofs.lemmas.List.Elements.{All-get_or}
use Rattle.dist_clause.specs.Formula.{IsClauseOver}
use Rattle.dist_clause.specs.ClauseList.{ClauseList}
use Rattle.dist_clause.proofs.clause_set.ClauseSet.clause.Goals as goal

pub returns-clause-over_variables : goal.returns-clause-over_variables
returns-clause-over_variables c =
    let count = ap (λ (set : ClauseList). length set.clauses) c.self.view_is in
    let inside : c.args.number - 1 < length c.self.inside.clauses = omega arith in
    let over = All-get_or (IsClauseOver c.self.inside.variables) c.self.inside.clauses (c.args.number - 1) [] inside c.self.invariant.within.over_variables in
    let variables = ap (λ (set : ClauseList). set.variables) c.self.view_is in
    subst (λ clause. IsClauseOver c.args.self.now.variables clause) (sym c.get.ensures)
    (subst (λ n. IsClauseOver n (get_or c.self.inside.clauses (c.args.number - 1) [])) variables over)
