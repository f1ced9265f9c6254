use Rattle.std.proofs.Common.{◌≡◌, ◌∙◌, ap, subst, sym, true}
use Rattle.std.proofs.lemmas.List.Elements.{All-nil}
use Rattle.dist_derive.specs.FarPrivate.{FarView}
use Rattle.dist_derive.specs.Marking.{HasAll}
use Rattle.dist_derive.specs.VariableSet.{VariableList}
use Rattle.dist_derive.proofs.far.Far.begin.Goals as goal

pub returns-clause-far : goal.returns-clause-far
returns-clause-far c = λ clauses. record {
  same_variables = c.include_each.ensures.same_variables ∙ ap (λ (s : VariableList). s.variables) c.clear-2.ensures
      ∙ ap (λ (f : FarView). f.set.variables) c.self.view_is ∙ c.requires.same_variables;
  in_range = c.find_common.ensures.in_range;
  least = λ has starts under. c.include_each.ensures.least has
      (subst (λ (s : VariableList). HasAll has s.members) (sym c.clear-2.ensures) (All-nil (λ v. has v ≡ true)))
      (subst (HasAll has) (sym c.deref.ensures.value) starts);
}
