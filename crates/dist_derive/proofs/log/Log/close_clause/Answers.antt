use Rattle.std.proofs.Common.{◌∷◌, [], ℕ, Bool, take, subst}
use Rattle.dist_derive.specs.Cone.{IsClosedUnder}
use Rattle.dist_derive.specs.Marking.{HasAll, IsClosedAt}
use Rattle.dist_derive.proofs.ReachLemmas.{Reaches-none, Reaches-clause}
use Rattle.dist_derive.proofs.log.Log.close_clause.Goals as goal

pub returns-then-number-inputs-clause-reaches : goal.returns-then-number-inputs-clause-reaches
returns-then-number-inputs-clause-reaches c =
    Reaches-clause c.args.self.now.clauses c.args.inputs c.args.number c.args.cone.now c.close_at.new.self c.close_at.result c.requires.inputs
    c.requires.from_one c.if-number-inputs.true c.close_at.ensures.grows
    (subst (λ clause. (has : ℕ → Bool) → HasAll has c.args.cone.now.members → IsClosedUnder has (clause ∷ []) → HasAll has c.close_at.new.self.members)
    c.clause.ensures.value c.close_at.ensures.least)

pub returns-then-number-inputs-clause-closed : goal.returns-then-number-inputs-clause-closed
returns-then-number-inputs-clause-closed c = λ _. subst (λ clause. IsClosedAt c.close_at.new.self.members clause) c.clause.ensures.value
    c.close_at.ensures.closed

pub returns-else-number-inputs-clause-reaches : goal.returns-else-number-inputs-clause-reaches
returns-else-number-inputs-clause-reaches c = Reaches-none (take c.args.inputs c.args.self.now.clauses) c.args.cone.now
