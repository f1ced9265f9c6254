use Rattle.std.proofs.Common.{false}
use Rattle.dist_explain.proofs.FileLemmas.{explanation-means}
use Rattle.dist_explain.proofs.laws.accepted_explanations_hold.Goals as goal

pub returns : goal.returns
returns c = explanation-means (record {
  clear = c.forms_are_clear.ensures;
  follows = c.lines_keep_models.ensures.what_follows;
  few = c.new_lines_are_few.ensures;
  known = λ r relations clauses ordered are of. record {
    are = are;
    have = c.relations_have_clauses.ensures.clauses r relations clauses are of;
    members = λ values. c.demands_tell_health.ensures.members r values ordered;
    values = c.demands_tell_health.ensures.values r;
    models = λ values. c.selectors_explain.ensures.models r relations clauses values ordered are of;
    explained = c.selectors_explain.ensures.explained r relations clauses ordered are of;
    healthy = c.models_are_installations.ensures r false clauses ordered of;
  };
})
