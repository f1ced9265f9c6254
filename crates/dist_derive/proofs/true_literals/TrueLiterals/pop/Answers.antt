use Rattle.std.proofs.Common.{false, set, ap, sym, subst, ◌∙◌}
use Rattle.std.specs.Vec.{vec_capacity}
use Rattle.dist_clause.specs.Formula.{negation}
use Rattle.dist_derive.specs.OccurrencesPrivate.{code_of}
use Rattle.dist_derive.specs.TrueLiterals.{AreFalses}
use Rattle.dist_derive.proofs.FalsesLemmas.{AreFalses-less}
use Rattle.dist_derive.proofs.true_literals.TrueLiterals.pop.Goals as goal

pub invariant_of-self-2 : goal.invariant_of-self-2
invariant_of-self-2 c =
    let n = c.self.inside.variables in
    let falses = c.self.inside.falses.items in
    let items = c.pop.new.self.items in
    let was = subst (λ xs. AreFalses n xs falses (vec_capacity c.self.inside.literals)) c.in-Some.ensures.items c.self.invariant in
    let code = c.code_of.ensures ∙ ap code_of c.negated.ensures in
    subst (λ k. AreFalses n items (set falses k false) (vec_capacity c.pop.new.self)) (sym code)
    (subst (λ m. AreFalses n items (set falses (code_of (negation c.in-Some.literal)) false) m) (sym c.pop.ensures.capacity)
    (AreFalses-less n items falses (vec_capacity c.self.inside.literals) c.in-Some.literal was))
