use Rattle.std.proofs.Common.{ap, arith}
use Rattle.dist_base.specs.declared.TheConstants.{MAX_VARIABLES}
use Rattle.dist_derive.specs.TrueLiterals.{LiteralList}
use Rattle.dist_derive.proofs.HintLaws.{over_few}
use Rattle.dist_derive.proofs.true_literals.TrueLiterals.len.Goals as goal

pub returns-clause-few : goal.returns-clause-few
returns-clause-few c =
    let few = over_few c.self.inside.variables c.self.inside.literals.items c.self.invariant.over in
    omega (arith, few, c.len.ensures, ap (λ (t : LiteralList). t.variables) c.self.view_is)

pub returns-clause-stated : goal.returns-clause-stated
returns-clause-stated c =
    let over = c.self.invariant.over in
    let few = over_few MAX_VARIABLES c.self.inside.literals.items record {
      in_range = λ k d within. ((over.in_range k d within).0, c.self.invariant.stated k d within);
      distinct = over.distinct;
    } in
    omega (arith, few, c.len.ensures)
