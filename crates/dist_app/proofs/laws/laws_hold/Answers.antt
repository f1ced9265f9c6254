use Rattle.dist_commands.specs.OneSpaceLaws.{one-space}
use Rattle.dist_app.proofs.laws.laws_hold.Goals as goal

pub returns : goal.returns
returns c = record {
  texts = record {
    packages = c.packages_are_exact.ensures;
    lists = c.lists_are_exact.ensures;
    certificates = c.texts_have_one_answer.ensures;
    explanations = c.explanations_have_one_answer.ensures.answer;
    numbers = c.first_numbers_are_one.ensures.one;
    explain_numbers = c.explanations_have_one_answer.ensures.number;
    names = c.names_are_exact.ensures;
    spaces = one-space c.latest_is_one.ensures.one c.spaces_are_one.ensures;
    newest = c.latest_is_one.ensures.one;
    space_of = c.spaces_are_one.ensures;
    partitions = c.partitions_are_one.ensures.one;
    tops = c.tops_are_one.ensures.one;
    cuts = c.cuts_are_one.ensures.cluster;
    clauses = c.space_clauses_are_one.ensures;
    repairs = c.repairs_have_one_answer.ensures;
    journals = c.journals_have_one_end.ensures;
  };
  health = c.one_health.ensures;
  budgets = c.budgets_are_enough.ensures;
  explain_budgets = c.explanation_budgets_are_enough.ensures;
  repair_budgets = c.repair_budgets_are_enough.ensures;
  claims = c.accepted_claims_hold.ensures;
  explanations = c.accepted_explanations_hold.ensures;
  repairs = c.accepted_repairs_hold.ensures;
  marks = λ r limits text. record {
    tried = λ basis h steps. c.marks_are_tried.ensures r basis limits text h steps;
    hard = λ basis h steps question cone. c.undecided_questions_are_hard.ensures r basis limits text h steps question cone;
  };
}
