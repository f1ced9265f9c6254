use Rattle.std.proofs.Common.{refl, arith}
use Rattle.dist_clause.specs.Formula.{value_of}
use Rattle.dist_solver.proofs.tested.Tests.model.Goals as goal

pub returns-clause-model : goal.returns-clause-model
returns-clause-model c =
    let values = c.in_ok-values.field-0 in
    let gives = c.in_ok-values.ensures.values in
    record {
      variables = omega (arith, c.in_ok-values.ensures.length, c.gather.ensures.same_variables, c.self.invariant, c.self.view_is, c.requires.same_variables);
      model = (c.if-not-holds.ensures (value_of values) gives).0 refl;
      assumed = c.if-not-are_true.ensures (value_of values) gives refl;
    }
