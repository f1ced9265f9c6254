use Rattle.dist_repo.proofs.AskedLemmas.{more-items}
use Rattle.dist_repo.proofs.asked_lists.AskedLists.add_items.Goals as goal

pub loop-place-preserved : goal.loop-place-preserved
loop-place-preserved c =
    more-items c.args.packages.now c.loop-place.self c.add.new.self c.args.number c.loop-place.place c.args.package.now c.get.result.now
    c.in_ok-asked.asked c.requires.number c.get.ensures c.in_ok-asked.ensures c.in_ok-add.ensures c.loop-place.invariant
