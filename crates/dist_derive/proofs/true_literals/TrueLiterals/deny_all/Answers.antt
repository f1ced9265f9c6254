use Rattle.std.proofs.Common.{◌≡◌, true, false, ◌+◌, ◌∷◌, [], ◌++◌, ◌≤◌, map, take, drop, ap, sym, subst, ◌∙◌, arith}
use Rattle.std.proofs.lemmas.List.{take_all, take-append-drop, map_push, map-append}
use Rattle.dist_clause.specs.Formula.{Literal, negation}
use Rattle.dist_derive.specs.AssumePrivate.{Assumes, AssumesAll}
use Rattle.dist_derive.proofs.ValuedLemmas.{take_item, All-item}
use Rattle.dist_derive.proofs.AssumedLemmas.{assumes_none, assumes_more, assumes_refused}
use Rattle.dist_derive.proofs.true_literals.TrueLiterals.deny_all.Goals as goal

pub loop-literal-init : goal.loop-literal-init
loop-literal-init c = assumes_none c.args.self.now

pub assume-requires : goal.assume-requires
assume-requires c =
    let here = All-item (λ (l : Literal). l.variable ≤ c.args.self.now.variables) c.args.clause.now c.loop-literal.literal-index c.literal-item.result
    c.loop-literal-test.true c.literal-item.is c.requires in
    omega (arith, here, ap (λ (l : Literal). l.variable) c.negated.ensures, c.loop-literal.invariant.same_variables)

pub returns-then-not-assume : goal.returns-then-not-assume
returns-then-not-assume c =
    let i = c.loop-literal.literal-index in
    let xs = c.args.clause.now in
    let l = c.literal-item.result in
    let step = subst (λ b. Assumes c.loop-literal.self c.assume.new.self c.negated.result b) c.if-not-assume.true c.assume.ensures in
    let step' = subst (λ m. Assumes c.loop-literal.self c.assume.new.self m false) c.negated.ensures step in
    let refused = assumes_refused c.args.self.now c.loop-literal.self c.assume.new.self (map negation (take i xs)) (map negation (drop (i + 1) xs))
    (negation l) c.loop-literal.invariant step' in
    let front : map negation (take (i + 1) xs) ≡ map negation (take i xs) ++ negation l ∷ [] =
    ap (map negation) (take_item xs i l c.loop-literal-test.true c.literal-item.is) ∙ map_push negation (take i xs) l in
    subst (λ ls. AssumesAll c.args.self.now c.assume.new.self ls false)
    (ap (λ ls. ls ++ map negation (drop (i + 1) xs)) (sym front)
    ∙ (sym (map-append negation (take (i + 1) xs) (drop (i + 1) xs)) ∙ ap (map negation) (take-append-drop (i + 1) xs))) refused

pub loop-literal-preserved : goal.loop-literal-preserved
loop-literal-preserved c =
    let i = c.loop-literal.literal-index in
    let xs = c.args.clause.now in
    let l = c.literal-item.result in
    let step = subst (λ b. Assumes c.loop-literal.self c.assume.new.self c.negated.result b) c.if-not-assume.false c.assume.ensures in
    let step' = subst (λ m. Assumes c.loop-literal.self c.assume.new.self m true) c.negated.ensures step in
    let more = assumes_more c.args.self.now c.loop-literal.self c.assume.new.self (map negation (take i xs)) (negation l)
    c.loop-literal.invariant step' in
    let front : map negation (take (i + 1) xs) ≡ map negation (take i xs) ++ negation l ∷ [] =
    ap (map negation) (take_item xs i l c.loop-literal-test.true c.literal-item.is) ∙ map_push negation (take i xs) l in
    subst (λ ls. AssumesAll c.args.self.now c.assume.new.self ls true) (sym front) more

pub returns : goal.returns
returns c = subst (λ xs. AssumesAll c.args.self.now c.loop-literal.self (map negation xs) true)
    (take_all c.loop-literal.literal-index c.args.clause.now c.loop-literal-test.false) c.loop-literal.invariant
