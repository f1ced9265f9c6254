use Rattle.std.proofs.Common.{refl}
use Rattle.std.proofs.lemmas.Bool.{false≢true}
use Rattle.dist_now.proofs.PairLemmas.{pair-added, pair-itself, pair-not-in}
use Rattle.dist_now.proofs.rejections.add_pair.Goals as goal

pub returns-then-other-number : goal.returns-then-other-number
returns-then-other-number c = pair-itself c.args.span.start c.args.span.end c.args.number c.args.other c.args.pairs.now.items c.if-other-number.true

pub returns-then-not-has : goal.returns-then-not-has
returns-then-not-has c =
    pair-not-in c.args.span.start c.args.span.end c.args.number c.args.other c.args.pairs.now.items c.pair_of-pair.result c.pair_of-pair.ensures
    (λ is_in. false≢true (c.if-not-has.ensures.1 is_in))

pub returns : goal.returns
returns c =
    rw c.in_ok-push.ensures.items
    (pair-added c.args.span.start c.args.span.end c.args.number c.args.other c.args.pairs.now.items c.pair_of-pair.result c.pair_of-pair.ensures
    (c.if-not-has.ensures.0 refl))
