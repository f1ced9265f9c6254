use Rattle.std.proofs.Common.{◌∙◌, ap, subst}
use Rattle.std.specs.List.{All, Contains}
use Rattle.dist_derive.specs.FarPrivate.{FarView}
use Rattle.dist_derive.proofs.far.Far.narrow.Goals as goal

pub returns-then-has_each-clause-within : goal.returns-then-has_each-clause-within
returns-then-has_each-clause-within c = subst (All (Contains c.args.cone.now.members))
    (c.deref.ensures.value ∙ ap (λ (f : FarView). f.starts) c.self.view_is) (c.has_each.ensures c.if-has_each.true)

pub returns-clause-far : goal.returns-clause-far
returns-clause-far c = λ clauses _. c.begin.ensures.far clauses
