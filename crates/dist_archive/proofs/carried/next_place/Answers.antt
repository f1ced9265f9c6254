use Rattle.std.proofs.Common.{arith, rules}
use Rattle.dist_classes.specs.NewVersion.{IsCarried}
use Rattle.dist_archive.proofs.CarriedLemmas.{place-passed, place-past, place-taken}
use Rattle.dist_archive.proofs.carried.next_place.Goals as goal

pub returns-then-place-len-clause-same : goal.returns-then-place-len-clause-same
returns-then-place-len-clause-same c =
    place-past c.args.old.now c.args.new.now c.args.entry.now c.args.carried.now c.args.place (omega arith)

pub returns-then-not-is_carried-clause-same : goal.returns-then-not-is_carried-clause-same
returns-then-not-is_carried-clause-same c =
    let differs : ¬ IsCarried c.args.old.now c.args.new.now c.args.entry.now c.get.result.now = search rules in
    place-passed c.args.old.now c.args.new.now c.args.entry.now c.args.carried.now c.args.place c.get.result.now c.get.ensures differs

pub returns-clause-same : goal.returns-clause-same
returns-clause-same c =
    let fits : IsCarried c.args.old.now c.args.new.now c.args.entry.now c.get.result.now = search rules in
    place-taken c.args.old.now c.args.new.now c.args.entry.now c.args.carried.now c.args.place c.get.result.now c.get.ensures fits
