use Rattle.std.proofs.Common.{ap, subst}
use Rattle.dist_derive.specs.TrueLiterals.{LiteralList}
use Rattle.dist_derive.specs.Propagation.{IsConsistent}
use Rattle.dist_derive.proofs.FalsesLemmas.{over_consistent}
use Rattle.dist_derive.proofs.true_literals.TrueLiterals.keeps_invariant.Goals as goal

pub returns : goal.returns
returns c = subst IsConsistent (ap (λ (t : LiteralList). t.literals) c.self.view_is)
    (over_consistent c.self.inside.variables c.self.inside.literals.items c.self.invariant.over)
