use Rattle.std.proofs.Common.{Bool, ◌&&◌, sym, ap, ◌∙◌}
use Rattle.std.specs.Cmp.Lexicographic.{pointwise}
use Rattle.dist_relation.specs.EqualityPrivate.{answers_equality, atom_eq, atoms_decide}
use Rattle.dist_relation.proofs.lists.AlternativesPartialEq.eq.Goals as goal

pub returns-then-eq-clause-same : goal.returns-then-eq-clause-same
returns-then-eq-clause-same c =
    let first = sym c.eq.ensures.value ∙ c.if-eq.true in
    let others = pointwise atom_eq c.self.inside.others.items c.other.inside.others.items in
    let value = c.eq-then-eq.ensures ∙ ap (λ (t : Bool). t && others) (sym first) in
    answers_equality atoms_decide c.eq-then-eq.result _ _ c.args.self.now c.args.other.now value c.self.view_is c.other.view_is
