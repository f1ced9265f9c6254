use Rattle.std.proofs.Common.{refl, arith}
use Rattle.std.proofs.lemmas.Bool.{false≢true}
use Rattle.dist_lanes.proofs.LanesLemmas.{meet-from-word, apart-from-bits}
use Rattle.dist_lanes.proofs.words.meet.Goals as goal

pub returns-then-lanes_meet : goal.returns-then-lanes_meet
returns-then-lanes_meet c = (
  λ _.
      let some = c.lanes_meet.ensures.0 c.if-lanes_meet.true in
      meet-from-word c.args.words.now c.args.others.now some.0 (c.type_inv.words some.0) (c.type_inv.others some.0) some.3,
  λ _. refl,
)

pub returns-then-words-at-ne0 : goal.returns-then-words-at-ne0
returns-then-words-at-ne0 c = (
  λ _. meet-from-word c.args.words.now c.args.others.now c.loop-at.at (c.type_inv.words c.loop-at.at) (c.type_inv.others c.loop-at.at)
      c.if-words-at-ne0.true,
  λ _. refl,
)

pub returns : goal.returns
returns c = (
  λ e. absurd (false≢true e),
  λ some. absurd (apart-from-bits c.args.words.now c.args.others.now (λ k low high. c.loop-at.invariant k low (omega arith))
      some.0 some.1 some.2),
)
