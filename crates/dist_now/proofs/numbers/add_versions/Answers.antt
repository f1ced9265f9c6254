use Rattle.std.proofs.Common.{arith, sym}
use Rattle.dist_now.proofs.AddsLemmas.{adds-more}
use Rattle.dist_now.proofs.NameLemmas.{names-apart}
use Rattle.dist_now.proofs.VersionLemmas.{IsVersionAt, names-same, versions-all, versions-end, versions-more, versions-none}
use Rattle.dist_now.proofs.numbers.add_versions.Goals as goal

pub returns-then-ne : goal.returns-then-ne
returns-then-ne c =
    versions-end c.args.repo.now c.args.first c.loop-second.second c.args.package.now c.package.result.now c.args.numbers.now.items c.loop-second.numbers.items
    c.len-end.ensures.in_order c.loop-second.invariant.0
    c.requires c.package.ensures (names-apart c.package.result.now.name c.args.package.now.name c.if-ne.ensures) c.loop-second.invariant.1

pub loop-second-init : goal.loop-second-init
loop-second-init c = (omega arith, versions-none c.args.repo.now c.args.first c.args.package.now.name c.args.numbers.now.items)

pub loop-second-preserved : goal.loop-second-preserved
loop-second-preserved c = (
  omega (arith, c.loop-second.invariant.0),
  let same = names-same c.package.result.now.name c.args.package.now.name c.if-ne.ensures in
      rw c.in_ok-push.ensures.items
      (adds-more c.args.numbers.now.items c.loop-second.numbers.items _ (IsVersionAt c.args.repo.now c.args.first c.args.package.now.name) c.loop-second.second
      c.loop-second.invariant.1
      (versions-more c.args.repo.now c.args.first c.loop-second.second c.args.package.now.name c.package.result.now c.loop-second.numbers.items
      c.loop-second.invariant.0 c.package.ensures (sym same))),
)

pub returns : goal.returns
returns c =
    versions-all c.args.repo.now c.args.first c.loop-second.second c.args.package.now.name c.args.numbers.now.items c.loop-second.numbers.items
    (let e = c.len-end.ensures.value in omega (arith, e, c.loop-second-test.false)) c.loop-second.invariant.1
