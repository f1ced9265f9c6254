use Rattle.std.proofs.Common.{arith, subst, sym}
use Rattle.dist_space_clauses.specs.Moving.{Entries}
use Rattle.dist_space_clauses.proofs.MovingLemmas.{AreUpTo, all-noted, none-noted, package-more}
use Rattle.dist_space_clauses.proofs.movers.Movers.note_packages.Goals as goal

pub loop-number-init : goal.loop-number-init
loop-number-init c = subst (λ (e : Entries). AreUpTo c.args.repo.now 0 e) (sym c.requires) (none-noted c.args.repo.now)

pub loop-number-preserved : goal.loop-number-preserved
loop-number-preserved c =
    package-more c.args.repo.now c.loop-number.number c.package.result.now c.loop-number.self c.note_package.new.self c.package.ensures
    c.loop-number.invariant c.in_ok-note_package.ensures

pub returns : goal.returns
returns c = all-noted c.args.repo.now c.loop-number.number c.loop-number.self
    (let e = c.len-number-end.ensures.value in omega (arith, e, c.loop-number-test.false)) c.loop-number.invariant
