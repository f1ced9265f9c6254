use Rattle.std.proofs.Common.{◌+◌, false, length, get_or, arith, sym, subst}
use Rattle.std.proofs.lemmas.Result.{err_from_is_err_and}
use Rattle.dist_clause.specs.ClauseList.{ClauseList}
use Rattle.dist_now.specs.PresentClauses.{Apart, IsDemand, present_demands}
use Rattle.dist_now.proofs.ClauseShape.{pair-clause}
use Rattle.dist_clause.specs.DemandLaws.{stops}
use Rattle.dist_now.proofs.PairFronts.{IsPairFront, pair-more, pair-next, pair-within, pair-written, pairs-done, pairs-start, second-demand}
use Rattle.dist_now.proofs.PushLemmas.{over-set}
use Rattle.dist_now.proofs.present_clauses.push_pairs_of.Goals as goal

pub loop-second-init : goal.loop-second-init
loop-second-init c = pairs-start c.args.repo.now c.args.first c.args.seconds.now c.args.set.now c.args.set.now c.requires.front

pub not_installed-requires : goal.not_installed-requires
not_installed-requires c =
    let demand = second-demand c.args.repo.now c.args.first c.args.seconds.now c.loop-second.second-index c.requires.exact c.loop-second-test.true in
    let short = pair-within c.args.repo.now c.args.first (get_or c.args.seconds.now c.loop-second.second-index 0) demand in
    omega (arith, short, demand.0, c.requires.packages)

pub not_installed-requires-in-loop-second : goal.not_installed-requires-in-loop-second
not_installed-requires-in-loop-second c =
    let demand = second-demand c.args.repo.now c.args.first c.args.seconds.now c.loop-second.second-index c.requires.exact c.loop-second-test.true in
    let short = pair-within c.args.repo.now c.args.first (get_or c.args.seconds.now c.loop-second.second-index 0) demand in
    omega (arith, short, c.requires.packages)

pub push-requires : goal.push-requires
push-requires c =
    let second = get_or c.args.seconds.now c.loop-second.second-index 0 in
    let demand = second-demand c.args.repo.now c.args.first c.args.seconds.now c.loop-second.second-index c.requires.exact c.loop-second-test.true in
    over-set c.loop-second.set.variables (length c.args.repo.now.packages) _ _ c.loop-second.invariant.front.variables
    (pair-written c.args.repo.now c.args.first second c.not_installed.result c.not_installed-in-loop-second.result c.not_installed.ensures
    c.not_installed-in-loop-second.ensures)
    (pair-clause (length c.args.repo.now.packages) c.args.first second demand.0 (pair-within c.args.repo.now c.args.first second demand))

pub returns-in_err-push-clause-err : goal.returns-in_err-push-clause-err
returns-in_err-push-clause-err c =
    let second = get_or c.args.seconds.now c.loop-second.second-index 0 in
    let demand = second-demand c.args.repo.now c.args.first c.args.seconds.now c.loop-second.second-index c.requires.exact c.loop-second-test.true in
    let front = pair-next c.args.repo.now c.args.first c.args.seconds.now c.loop-second.second-index c.args.set.now c.loop-second.set c.requires.rising
    c.requires.exact c.loop-second-test.true c.loop-second.invariant in
    let p = err_from_is_err_and c.from_residual.result c.from_residual.ensures.1 in
    rw (p.1, p.2) (stops (present_demands c.args.repo.now) (IsDemand c.args.repo.now false) c.loop-second.set c.args.set.now (Apart c.args.first
    second) _ _ front demand
    (pair-written c.args.repo.now c.args.first second c.not_installed.result c.not_installed-in-loop-second.result c.not_installed.ensures
    c.not_installed-in-loop-second.ensures) c.in_err-push.ensures.cause)

pub loop-second-preserved : goal.loop-second-preserved
loop-second-preserved c =
    let second = get_or c.args.seconds.now c.loop-second.second-index 0 in
    let After : ClauseList → Type 0 = IsPairFront c.args.repo.now c.args.first c.args.seconds.now (c.loop-second.second-index + 1) c.args.set.now in
    subst After (sym c.in_ok-push.ensures.ok)
    (pair-more c.args.repo.now c.args.first c.args.seconds.now c.loop-second.second-index c.args.set.now c.loop-second.set _ c.requires.rising c.requires.exact
    c.loop-second-test.true c.loop-second.invariant
    (pair-written c.args.repo.now c.args.first second c.not_installed.result c.not_installed-in-loop-second.result c.not_installed.ensures
    c.not_installed-in-loop-second.ensures))

pub returns-clause-ok : goal.returns-clause-ok
returns-clause-ok c = pairs-done c.args.repo.now c.args.first c.args.seconds.now c.loop-second.second-index c.args.set.now c.loop-second.set c.requires.exact
    c.loop-second-test.false c.loop-second.invariant
