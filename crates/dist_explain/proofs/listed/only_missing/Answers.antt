use Rattle.std.proofs.Common.{◌+◌, ◌∙◌, subst, sym, take}
use Rattle.std.proofs.lemmas.Bool.{true≢false}
use Rattle.dist_explain.proofs.ListedLemmas.{IsMissingOf, next-first, next-second, next-there, none-next}
use Rattle.dist_explain.proofs.listed.only_missing.Goals.{then-not-has_behind+else-is_some, else-not-has_behind}
use Rattle.dist_explain.proofs.listed.only_missing.Goals as goal

pub returns-then-is_some : goal.returns-then-is_some
returns-then-is_some c =
    next-second c.args.numbers.now c.args.offset c.args.list.now c.loop-number.number-index c.loop-number.found c.requires.numbers c.loop-number-test.true
    (sym c.is_some.ensures ∙ c.if-is_some.true) c.loop-number.invariant
    (λ there. true≢false (sym (c.has_behind.ensures.1 there) ∙ c.if-not-has_behind.true))

pub loop-number-preserved : goal.loop-number-preserved
loop-number-preserved c =
    let front = take (c.loop-number.number-index + 1) c.args.numbers.now in
    elim c.if-not-has_behind.branch [
      | then-not-has_behind+else-is_some w ↦
          subst (λ found. IsMissingOf front c.args.offset c.args.list.now found) (sym w.found-is)
          (next-first c.args.numbers.now c.args.offset c.args.list.now c.loop-number.number-index c.loop-number.found c.loop-number-test.true
          (sym w.is_some.ensures ∙ w.if-is_some.false) c.loop-number.invariant
          (λ there. true≢false (sym (c.has_behind.ensures.1 there) ∙ w.if-not-has_behind.true)))
      | else-not-has_behind w ↦
          subst (λ found. IsMissingOf front c.args.offset c.args.list.now found) (sym w.found-is)
          (next-there c.args.numbers.now c.args.offset c.args.list.now c.loop-number.number-index c.loop-number.found c.loop-number-test.true
          c.loop-number.invariant (c.has_behind.ensures.0 w.if-not-has_behind.false))
    ]

pub returns : goal.returns
returns c = none-next c.args.numbers.now c.args.offset c.args.list.now c.loop-number.number-index c.loop-number.found c.loop-number-test.false
    c.loop-number.invariant
