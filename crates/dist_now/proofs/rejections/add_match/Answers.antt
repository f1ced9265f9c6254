use Rattle.std.proofs.Common.{refl}
use Rattle.std.proofs.lemmas.Bool.{false≢true}
use Rattle.std.proofs.lemmas.Result.{on_ok_weaker}
use Rattle.dist_repo.specs.Match.{Matches}
use Rattle.dist_now.proofs.PairLemmas.{pair-matched, pair-not}
use Rattle.dist_now.proofs.rejections.add_match.Goals as goal

pub returns-then-not-matches_provider : goal.returns-then-not-matches_provider
returns-then-not-matches_provider c = pair-not c.args.repo.now c.args.span.start c.args.span.end c.args.number c.args.other
    (Matches c.args.repo.now.architecture c.args.atom.now) c.args.pairs.now.items (λ matches. false≢true (c.if-not-matches_provider.ensures.1 matches))

pub returns : goal.returns
returns c =
    on_ok_weaker c.add_pair.result
    (pair-matched c.args.repo.now c.args.span.start c.args.span.end c.args.number c.args.other (Matches c.args.repo.now.architecture c.args.atom.now)
    c.args.pairs.now.items c.add_pair.new.pairs.items (c.if-not-matches_provider.ensures.0 refl)) c.add_pair.ensures
