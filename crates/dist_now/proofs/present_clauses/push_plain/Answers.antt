use Rattle.std.proofs.Common.{false}
use Rattle.std.proofs.lemmas.Result.{IfErr-weaker}
use Rattle.dist_now.specs.GatheringPrivate.{IsCauseAt}
use Rattle.dist_now.proofs.FrontLemmas.{cause-later}
use Rattle.dist_now.proofs.present_clauses.push_plain.Goals as goal

pub returns-clause-err : goal.returns-clause-err
returns-clause-err c =
    IfErr-weaker c.push_pairs.result (IsCauseAt c.args.repo.now false c.push_items.new.set) (IsCauseAt c.args.repo.now false c.args.set.now)
    (λ error. cause-later c.args.repo.now false _ c.args.set.now c.push_items.new.set error c.in_ok-push_items.ensures.ok) c.push_pairs.ensures.err
