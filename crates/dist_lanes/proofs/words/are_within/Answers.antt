use Rattle.std.proofs.Common.{refl, sym, ◌∙◌, arith}
use Rattle.std.proofs.lemmas.Bool.{false≢true}
use Rattle.dist_lanes.proofs.LanesLemmas.{within-from-bits, bits-of-within}
use Rattle.dist_lanes.proofs.words.are_within.Goals as goal

pub returns-then-not-lanes_are_within : goal.returns-then-not-lanes_are_within
returns-then-not-lanes_are_within c = (
  λ e. absurd (false≢true e),
  λ within. absurd (false≢true (sym c.if-not-lanes_are_within.true
      ∙ c.lanes_are_within.ensures.1 (λ k low high. within-from-bits c.args.words.now c.args.others.now c.type_inv.words c.type_inv.others within k))),
)

pub returns-then-words-at : goal.returns-then-words-at
returns-then-words-at c = (
  λ e. absurd (false≢true e),
  λ within. absurd (c.if-words-at.true
      (within-from-bits c.args.words.now c.args.others.now c.type_inv.words c.type_inv.others within c.loop-at.at)),
)

pub returns : goal.returns
returns c = (
  λ _. bits-of-within c.args.words.now c.args.others.now (λ k low high. c.loop-at.invariant k low (omega arith)),
  λ _. refl,
)
