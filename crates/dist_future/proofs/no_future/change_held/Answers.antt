use Rattle.std.proofs.Common.{sym, refl, arith}
use Rattle.std.proofs.lemmas.Bool.{false≢true}
use Rattle.dist_future.proofs.FoundLemmas.{holds-from}
use Rattle.dist_future.proofs.NoFutureLemmas.{change-least, change-more, change-none, never-holds, no-change}
use Rattle.dist_future.proofs.no_future.change_held.Goals.{else-value-via-then-value+else-is_change, else-value-via-else-value}
use Rattle.dist_future.proofs.no_future.change_held.Goals as goal

pub returns-then-is_change : goal.returns-then-is_change
returns-then-is_change c =
    change-least c.args.space.now c.args.members.now c.meaning.result c.loop-variable.variable c.meaning.ensures.of
    (holds-from c.args.space.now c.args.members.now c.meaning.result c.loop-variable.variable c.value.result c.meaning.ensures.is_meaning
    (sym c.meaning.ensures.back) c.value.ensures c.if-value.true) (c.if-is_change.ensures.0 refl)
    c.loop-variable.invariant

pub loop-variable-preserved : goal.loop-variable-preserved
loop-variable-preserved c =
    change-more c.args.space.now c.args.members.now c.loop-variable.variable
    (λ f. elim c.else-value.branch [
      | else-value-via-then-value+else-is_change w ↦
          no-change c.args.space.now c.args.members.now w.meaning.result c.loop-variable.variable w.meaning.ensures.of
          (λ change. false≢true (w.if-is_change.ensures.1 change)) f
      | else-value-via-else-value w ↦ never-holds c.args.space.now c.args.members.now f.meaning c.loop-variable.variable c.value.result c.value.ensures
          w.if-value.false f.holds f.variable_is
    ])
    c.loop-variable.invariant

pub returns : goal.returns
returns c =
    change-none c.args.space.now c.args.members.now c.loop-variable.variable c.variables-variable-end.ensures.space
    (let e = c.variables-variable-end.ensures.value in omega (arith, e, c.loop-variable-test.false)) c.loop-variable.invariant
