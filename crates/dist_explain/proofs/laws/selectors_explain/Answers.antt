use Rattle.std.proofs.Common.{List, false}
use Rattle.dist_clause.specs.Formula.{Literal}
use Rattle.dist_repo.specs.Order.{IsInOrder}
use Rattle.dist_repo.specs.PackageList.{PackageList}
use Rattle.dist_now.specs.PresentClauses.{ArePresentClauses, Demand}
use Rattle.dist_now.specs.Relations.{AreRelations}
use Rattle.dist_explain.proofs.ExplainLaws.{Present, explained-by-no-model, models-by-selectors}
use Rattle.dist_explain.proofs.laws.selectors_explain.Goals as goal

present : goal.After-relations_have_clauses → (r : PackageList) (relations : List Demand) (clauses : List (List Literal)) → IsInOrder r.packages
    → AreRelations r relations → ArePresentClauses r false clauses → Present r relations clauses
present c r relations clauses ordered are of = record {
  have = c.relations_have_clauses.ensures.clauses r relations clauses are of;
  by_demand = λ d clause values there is. c.demands_tell_health.ensures.clauses r false d clause values ordered ((are.exact d).0 there) is;
  members = λ values. c.demands_tell_health.ensures.members r values ordered;
  values = λ members some. c.demands_tell_health.ensures.values r members some;
  same = λ members others d same fails. c.demands_tell_health.ensures.same r members others d same fails;
  decided = λ members d. c.demands_tell_health.ensures.decided r members d;
}

pub returns-clause-models : goal.returns-clause-models
returns-clause-models c = λ r relations clauses values ordered are of.
    models-by-selectors r relations clauses values (present c r relations clauses ordered are of)

pub returns-clause-explained : goal.returns-clause-explained
returns-clause-explained c = λ r relations clauses ordered are of. explained-by-no-model r relations clauses (present c r relations clauses ordered are of)
