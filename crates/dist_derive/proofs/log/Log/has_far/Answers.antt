use Rattle.std.proofs.Common.{◌∙◌, ap, subst, sym}
use Rattle.dist_derive.specs.FarPrivate.{FarView, IsFar}
use Rattle.dist_derive.proofs.log.Log.has_far.Goals as goal

pub returns-in-Ok-clause-far : goal.returns-in-Ok-clause-far
returns-in-Ok-clause-far c = λ clauses _ _. subst (λ (f : FarView). IsFar clauses c.args.self.now.variables f) (sym c.put.ensures)
    (subst (λ n. IsFar clauses n c.in-Ok.made) c.variables.ensures.value (c.in-Ok.ensures.far clauses))

pub returns-in-Ok-clause-made : goal.returns-in-Ok-clause-made
returns-in-Ok-clause-made c = λ _. ap (λ (f : FarView). f.is_made) c.put.ensures ∙ c.in-Ok.ensures.made
