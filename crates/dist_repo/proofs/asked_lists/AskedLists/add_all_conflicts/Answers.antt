use Rattle.std.proofs.Common.{refl, subst}
use Rattle.std.proofs.lemmas.Option.{slice_get_read}
use Rattle.dist_asked.specs.AskedPlaces.{AreEnough}
use Rattle.dist_repo.specs.declared.package.Package.{Package}
use Rattle.dist_repo.proofs.AskedLemmas.{more-conflicts}
use Rattle.dist_repo.proofs.asked_lists.AskedLists.add_all_conflicts.Goals as goal

pub loop-number-preserved : goal.loop-number-preserved
loop-number-preserved c =
    let p : Package = c.index-packages-number.result in
    let Enough : Package → Type 0 = λ x. AreEnough x.conflicts c.in_ok-asked.asked in
    more-conflicts c.args.packages.now c.loop-number.self c.add.new.self c.loop-number.number 0 p c.in_ok-asked.asked
    (slice_get_read c.args.packages.now _ c.loop-number.number p refl c.loop-number-test.true c.index-packages-number.is)
    (subst Enough c.package.ensures c.in_ok-asked.ensures) c.in_ok-add.ensures c.loop-number.invariant
