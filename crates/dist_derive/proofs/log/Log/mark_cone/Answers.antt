use Rattle.std.proofs.Common.{take, subst}
use Rattle.std.specs.List.{Contains}
use Rattle.dist_derive.specs.Cone.{InCone}
use Rattle.dist_derive.proofs.log.Log.mark_cone.Goals as goal

pub returns-clause-exact : goal.returns-clause-exact
returns-clause-exact c = λ v.
    subst (λ n. (Contains c.mark.new.cone.members v → InCone (take n c.args.self.now.clauses) c.args.assumptions.now v)
    × (InCone (take n c.args.self.now.clauses) c.args.assumptions.now v → Contains c.mark.new.cone.members v))
    c.inputs.ensures.value (c.mark.ensures.exact v)
