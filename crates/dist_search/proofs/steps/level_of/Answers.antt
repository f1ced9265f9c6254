use Rattle.std.proofs.Common.{refl, sym, subst, ◌∙◌, arith}
use Rattle.std.specs.List.{Contains}
use Rattle.std.proofs.lemmas.List.Elements.{All-contains}
use Rattle.dist_clause.specs.Formula.{negation}
use Rattle.dist_derive.specs.Propagation.{IsFalse}
use Rattle.dist_search.specs.StepsPrivate.{IsSet}
use Rattle.dist_search.proofs.ValueLemmas.{set_by}
use Rattle.dist_search.proofs.LevelLemmas.{level_of_second, by_second}
use Rattle.dist_search.proofs.steps.level_of.Goals as goal

pub place-requires : goal.place-requires
place-requires c =
    let second = c.second-item.result in
    let shape = by_second c.args.clause.now second c.in-len2-up.len_at_least c.second-item.is in
    let is_false : IsFalse c.args.trail.now.literals second = All-contains (IsFalse c.args.trail.now.literals) c.args.clause.now second c.requires.is_false
    (subst (λ clause. Contains clause second) (sym shape.2) (1, omega arith, refl)) in
    subst (λ v. IsSet c.args.trail.now.literals v) (sym c.variable.ensures.value) (set_by c.args.trail.now.literals (negation second) is_false)

pub returns-in-len2-up : goal.returns-in-len2-up
returns-in-len2-up c =
    let second = c.second-item.result in
    let shape = by_second c.args.clause.now second c.in-len2-up.len_at_least c.second-item.is in
    level_of_second c.args.trail.now c.args.clause.now c.keeps_invariant.ensures.ordered c.requires shape.0 second shape.1 shape.2 c.place.result
    c.levels_to.result c.place.ensures.within (c.place.ensures.place ∙ c.variable.ensures.value) c.levels_to.ensures.before c.levels_to.ensures.behind
    c.levels_to.ensures.to
