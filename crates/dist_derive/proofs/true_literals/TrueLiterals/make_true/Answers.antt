use Rattle.std.proofs.Common.{◌≤◌, true, [], ◌∷◌, ◌++◌, set, ap, subst, sym, ◌∙◌, arith}
use Rattle.std.specs.Vec.{vec_capacity}
use Rattle.std.proofs.lemmas.List.{length_push}
use Rattle.dist_base.specs.declared.TheConstants.{MAX_VARIABLES}
use Rattle.dist_clause.specs.Formula.{negation}
use Rattle.dist_derive.specs.OccurrencesPrivate.{code_of}
use Rattle.dist_derive.specs.TrueLiterals.{LiteralList, AreFalses}
use Rattle.dist_derive.specs.Propagation.{IsUnset}
use Rattle.dist_derive.proofs.HintLaws.{over_push, over_few}
use Rattle.dist_derive.proofs.FalsesLemmas.{AreFalses-add}
use Rattle.dist_derive.proofs.true_literals.TrueLiterals.make_true.Goals as goal

pub push_reserved-requires : goal.push_reserved-requires
push_reserved-requires c =
    let n = c.self.inside.variables in
    let trues = c.self.inside.literals.items in
    let l = c.args.literal in
    let unset = subst (λ ts. IsUnset ts l) (sym (ap (λ (t : LiteralList). t.literals) c.self.view_is)) c.requires.unset in
    let from : 1 ≤ l.variable = grind arith in
    let to : l.variable ≤ n = omega (arith, ap (λ (t : LiteralList). t.variables) c.self.view_is, c.requires.in_range) in
    let few = over_few n (trues ++ l ∷ []) (over_push n trues l c.self.invariant.over (from, to) unset) in
    omega (arith, few, length_push trues l, c.self.invariant.room)

pub invariant_of-self : goal.invariant_of-self
invariant_of-self c =
    let n = c.self.inside.variables in
    let falses = c.self.inside.falses.items in
    let trues = c.self.inside.literals.items in
    let l = c.args.literal in
    let now = c.push_reserved.new.self in
    let unset = subst (λ ts. IsUnset ts l) (sym (ap (λ (t : LiteralList). t.literals) c.self.view_is)) c.requires.unset in
    let from : 1 ≤ l.variable = grind arith in
    let to : l.variable ≤ n = omega (arith, ap (λ (t : LiteralList). t.variables) c.self.view_is, c.requires.in_range) in
    let to_limit : l.variable ≤ MAX_VARIABLES = grind arith in
    let code = c.code_of.ensures ∙ ap code_of c.negated.ensures in
    let added = AreFalses-add n trues falses (vec_capacity c.self.inside.literals) (vec_capacity now) l c.self.invariant
    (omega (arith, c.push_reserved.ensures.capacity)) unset from to to_limit in
    subst (λ k. AreFalses n now.items (set falses k true) (vec_capacity now)) (sym code)
    (subst (λ ts. AreFalses n ts (set falses (code_of (negation l)) true) (vec_capacity now)) (sym c.push_reserved.ensures.items) added)

pub returns-clause-few : goal.returns-clause-few
returns-clause-few c = over_few c.self.inside.variables c.push_reserved.new.self.items (invariant_of-self c).over
