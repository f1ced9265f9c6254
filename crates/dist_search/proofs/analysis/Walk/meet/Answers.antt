use Rattle.std.proofs.Common.{◌≡◌, ◌∙◌, [], ◌∷◌, ◌++◌, subst, arith, refl}
use Rattle.std.specs.List.{Contains}
use Rattle.dist_search.proofs.MeetLemmas.{state_again, state_new, state_of}
use Rattle.dist_search.proofs.analysis.Walk.meet.Goals as goal

pub returns-then-not-include : goal.returns-then-not-include
returns-then-not-include c =
    let before = c.self.inside in
    let included = c.if-not-include.ensures in
    state_again c.args.trail.now.literals c.args.bounds.current before.marked c.include.new.self before.earliest before.lowest before.clause.items
    before.hints.items c.args.self.now c.self.view_is c.args.literal included.0
    (subst (Contains before.marked.members) c.variable-variable.ensures.value included.1)

pub returns-then-place-bounds-2 : goal.returns-then-place-bounds-2
returns-then-place-bounds-2 c =
    let before = c.self.inside in
    let value = c.variable-variable.ensures.value in
    let included = c.if-not-include.ensures in
    let first = c.min-self-inside.result in
    let low = c.min-self-inside-then-place-bounds-2.result in
    state_new c.args.trail.now.literals c.args.bounds.current before.marked c.include.new.self before.earliest before.lowest before.clause.items
    before.hints.items c.args.self.now c.self.view_is c.args.literal (state_of c.include.new.self first low before.clause.items before.hints.items)
    c.place-place.result first low c.keeps_invariant.ensures.ordered.over.distinct c.place-place.ensures.within (c.place-place.ensures.place ∙ value)
    (subst (λ v. c.include.new.self ≡ record before.marked { members = before.marked.members ++ v ∷ [] }) value included.0) refl c.min-self-inside.ensures
    (λ _. c.min-self-inside-then-place-bounds-2.ensures) (λ before. absurd (omega (arith, before, c.if-place-bounds-2.true)))

pub returns-else-place-bounds-2 : goal.returns-else-place-bounds-2
returns-else-place-bounds-2 c =
    let before = c.self.inside in
    let value = c.variable-variable.ensures.value in
    let included = c.if-not-include.ensures in
    let first = c.min-self-inside.result in
    let low = before.lowest in
    state_new c.args.trail.now.literals c.args.bounds.current before.marked c.include.new.self before.earliest before.lowest before.clause.items
    before.hints.items c.args.self.now c.self.view_is c.args.literal (state_of c.include.new.self first low before.clause.items before.hints.items)
    c.place-place.result first low c.keeps_invariant.ensures.ordered.over.distinct c.place-place.ensures.within (c.place-place.ensures.place ∙ value)
    (subst (λ v. c.include.new.self ≡ record before.marked { members = before.marked.members ++ v ∷ [] }) value included.0) refl c.min-self-inside.ensures
    (λ behind. absurd (omega (arith, behind, c.if-place-bounds-2.false))) (λ _. refl)
