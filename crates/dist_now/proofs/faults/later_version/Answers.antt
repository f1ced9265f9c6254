use Rattle.std.proofs.Common.{◌≡◌, arith}
use Rattle.dist_repo.specs.declared.package.Package.{Package}
use Rattle.dist_now.proofs.LaterLemmas.{none-of-name, none-later}
use Rattle.dist_now.proofs.NameLemmas.{names-apart}
use Rattle.dist_now.proofs.faults.later_version.Goals as goal

pub returns-then-ne : goal.returns-then-ne
returns-then-ne c =
    none-of-name c.args.repo.now c.args.members.now c.args.first c.loop-second.second c.args.package.now c.package.result.now c.len-end.ensures.in_order
    c.loop-second.invariant.1
    c.requires.first c.package.ensures (names-apart c.package.result.now.name c.args.package.now.name c.if-ne.ensures) c.loop-second.invariant.0

pub returns : goal.returns
returns c =
    none-later c.args.repo.now c.args.members.now c.args.first c.loop-second.second (λ (q : Package). c.args.package.now.name ≡ q.name)
    (let e = c.len-end.ensures.value in omega (arith, e, c.loop-second-test.false)) c.loop-second.invariant.0
