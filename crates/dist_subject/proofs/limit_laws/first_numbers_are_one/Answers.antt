use Rattle.dist_subject.proofs.Numbers.{kept, one}
use Rattle.dist_subject.proofs.limit_laws.first_numbers_are_one.Goals as goal

pub returns-clause-kept : goal.returns-clause-kept
returns-clause-kept c = kept (record {
  latest = c.latest_is_one.ensures.one;
  spaces = c.spaces_are_one.ensures;
  present = c.present_clauses_go_on.ensures;
  later = c.space_clauses_go_on.ensures;
  there = c.present_clauses_are_there.ensures;
  apart = c.one_limit_is_passed.ensures;
})

pub returns-clause-one : goal.returns-clause-one
returns-clause-one c = one (record {
  latest = c.latest_is_one.ensures.one;
  spaces = c.spaces_are_one.ensures;
  present = c.present_clauses_go_on.ensures;
  later = c.space_clauses_go_on.ensures;
  there = c.present_clauses_are_there.ensures;
  apart = c.one_limit_is_passed.ensures;
})
