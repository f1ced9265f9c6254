use Rattle.dist_subject.proofs.Bases.{one-basis, some-there, today-there}
use Rattle.dist_subject.proofs.laws.bases_are_one.Goals as goal

pub returns-clause-today : goal.returns-clause-today
returns-clause-today c = today-there c.present_clauses_are_there.ensures

pub returns-clause-there : goal.returns-clause-there
returns-clause-there c = some-there c.present_clauses_are_there.ensures c.spaces_are_there.ensures c.space_clauses_are_there.ensures
    c.latest_is_one.ensures.some

pub returns-clause-one : goal.returns-clause-one
returns-clause-one c = one-basis (record {
  latest = c.latest_is_one.ensures.one;
  present = c.present_clauses_are_one.ensures;
  spaces = c.spaces_are_one.ensures;
  clauses = c.space_clauses_are_one.ensures;
})
