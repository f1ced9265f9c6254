use Rattle.std.proofs.Common.{sym, arith}
use Rattle.dist_space.specs.declared.meaning.Meaning.TheVariants.{Fresh}
use Rattle.dist_future.proofs.FoundLemmas.{holds-from}
use Rattle.dist_future.proofs.NoFutureLemmas.{held-least, held-more, held-none, never-holds}
use Rattle.dist_future.proofs.VariableOrder.{fresh-less}
use Rattle.dist_future.proofs.no_future.fresh_held.Goals as goal

pub returns-then-value : goal.returns-then-value
returns-then-value c =
    held-least c.args.space.now c.args.members.now (Fresh c.args.name) c.args.start c.loop-class.class c.variable-variable.result
    (λ k l is also less. fresh-less c.args.space.now c.args.name k l c.keeps_invariant.ensures.space is also less) (omega arith)
    c.variable-variable.ensures.value
    (holds-from c.args.space.now c.args.members.now (Fresh c.args.name c.loop-class.class) c.variable-variable.result c.value.result
    (omega (arith, c.requires.end, c.loop-class-test.true)) c.variable-variable.ensures.value c.value.ensures c.if-value.true) c.loop-class.invariant

pub loop-class-preserved : goal.loop-class-preserved
loop-class-preserved c =
    held-more c.args.space.now c.args.members.now (Fresh c.args.name) c.args.start c.loop-class.class
    (λ holds. never-holds c.args.space.now c.args.members.now (Fresh c.args.name c.loop-class.class) c.variable-variable.result c.value.result
    c.value.ensures c.if-value.false holds (sym c.variable-variable.ensures.value))
    c.loop-class.invariant

pub returns : goal.returns
returns c = held-none c.args.space.now c.args.members.now (Fresh c.args.name) c.args.start c.loop-class.class
    (λ k is. omega (arith, is, c.requires.end, c.loop-class-test.false)) c.loop-class.invariant
