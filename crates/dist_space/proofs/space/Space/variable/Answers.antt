use Rattle.std.proofs.Common.{sym, arith}
use Rattle.std.proofs.lemmas.Option.{slice_get_within}
use Rattle.dist_space.specs.VariableLaws.{variable-at}
use Rattle.dist_space.proofs.space.Space.variable.Goals as goal

pub overflow_add-result : goal.overflow_add-result
overflow_add-result c =
    let inside = slice_get_within c.args.self.now.meanings c.place.result c.args.meaning.now c.place.ensures in
    omega (arith, inside, c.keeps_invariant.ensures.variables)

pub returns-clause-value : goal.returns-clause-value
returns-clause-value c = sym (variable-at c.args.self.now c.args.meaning.now c.place.result c.keeps_invariant.ensures.space.meanings.rising c.place.ensures)

pub returns-clause-in_range : goal.returns-clause-in_range
returns-clause-in_range c = let inside = slice_get_within c.args.self.now.meanings c.place.result c.args.meaning.now c.place.ensures in omega (arith, inside)

pub returns-clause-stated : goal.returns-clause-stated
returns-clause-stated c =
    let inside = slice_get_within c.args.self.now.meanings c.place.result c.args.meaning.now c.place.ensures in
    omega (arith, inside, c.keeps_invariant.ensures.variables)
