use Rattle.std.proofs.Common.{false, replicate, sym, subst}
use Rattle.std.specs.Vec.{vec_capacity}
use Rattle.dist_derive.specs.Marking.{AreMarked}
use Rattle.dist_derive.proofs.MarkedLemmas.{AreMarked-none}
use Rattle.dist_derive.proofs.variable_set.VariableSet.new.Goals as goal

pub invariant_of-result : goal.invariant_of-result
invariant_of-result c =
    let members = c.in_ok-members.members in
    subst (λ marks. AreMarked marks members.items (vec_capacity members)) (sym c.in_ok-marks.ensures)
    (subst (λ ms. AreMarked (replicate c.args.variables false) ms (vec_capacity members)) (sym c.in_ok-members.ensures.items)
    (AreMarked-none c.args.variables (vec_capacity members) c.in_ok-members.ensures.capacity))
