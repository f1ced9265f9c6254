use Rattle.std.proofs.Common.{arith, below_more}
use Rattle.dist_space.specs.Space.{IsExample}
use Rattle.dist_space.proofs.ExampleLemmas.{example-is}
use Rattle.dist_space.proofs.exampled.have_examples.Goals as goal

pub loop-place-preserved : goal.loop-place-preserved
loop-place-preserved c =
    below_more (λ k. IsExample c.args.classes.now k) c.loop-place.place c.loop-place.invariant
    (example-is c.args.classes.now c.loop-place.place c.get.result.now c.get.ensures.value c.class_has_example.ensures)

pub returns : goal.returns
returns c = λ k short. c.loop-place.invariant k (omega arith)
