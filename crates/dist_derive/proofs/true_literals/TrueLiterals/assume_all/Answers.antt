use Rattle.std.proofs.Common.{true, false, ◌+◌, ◌++◌, take, drop, ap, sym, subst, ◌∙◌}
use Rattle.std.proofs.lemmas.List.{take_all, take-append-drop}
use Rattle.dist_derive.specs.AssumePrivate.{Assumes, AssumesAll}
use Rattle.dist_derive.proofs.ValuedLemmas.{take_item}
use Rattle.dist_derive.proofs.AssumedLemmas.{assumes_none, assumes_more, assumes_refused}
use Rattle.dist_derive.proofs.true_literals.TrueLiterals.assume_all.Goals as goal

pub loop-literal-init : goal.loop-literal-init
loop-literal-init c = assumes_none c.args.self.now

pub returns-then-not-assume : goal.returns-then-not-assume
returns-then-not-assume c =
    let i = c.loop-literal.literal-index in
    let xs = c.args.literals.now in
    let step = subst (λ b. Assumes c.loop-literal.self c.assume.new.self c.literal-item.result b) c.if-not-assume.true c.assume.ensures in
    let refused = assumes_refused c.args.self.now c.loop-literal.self c.assume.new.self (take i xs) (drop (i + 1) xs) c.literal-item.result
    c.loop-literal.invariant step in
    subst (λ ls. AssumesAll c.args.self.now c.assume.new.self ls false)
    (ap (λ ls. ls ++ drop (i + 1) xs) (sym (take_item xs i c.literal-item.result c.loop-literal-test.true c.literal-item.is))
    ∙ take-append-drop (i + 1) xs) refused

pub loop-literal-preserved : goal.loop-literal-preserved
loop-literal-preserved c =
    let i = c.loop-literal.literal-index in
    let step = subst (λ b. Assumes c.loop-literal.self c.assume.new.self c.literal-item.result b) c.if-not-assume.false c.assume.ensures in
    let more = assumes_more c.args.self.now c.loop-literal.self c.assume.new.self (take i c.args.literals.now) c.literal-item.result
    c.loop-literal.invariant step in
    subst (λ xs. AssumesAll c.args.self.now c.assume.new.self xs true)
    (sym (take_item c.args.literals.now i c.literal-item.result c.loop-literal-test.true c.literal-item.is)) more

pub returns : goal.returns
returns c = subst (λ xs. AssumesAll c.args.self.now c.loop-literal.self xs true)
    (take_all c.loop-literal.literal-index c.args.literals.now c.loop-literal-test.false) c.loop-literal.invariant
