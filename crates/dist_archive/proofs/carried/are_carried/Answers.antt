use Rattle.std.proofs.Common.{◌≡◌, ◌↔◌, arith, length, rules}
use Rattle.dist_archive.specs.CarriedPrivate.{CanCarry}
use Rattle.dist_archive.proofs.CarriedLemmas.{all-entries, next-entry}
use Rattle.dist_archive.proofs.carried.are_carried.Goals as goal

pub loop-number-preserved : goal.loop-number-preserved
loop-number-preserved c = record {
  within = c.next_place-place.ensures.within;
  same = next-entry c.args.old.now c.args.new.now c.args.entries.now c.args.carried.now c.loop-number.number c.loop-number.place
      c.next_place-place.result c.get.result.now c.get.ensures c.loop-number.invariant.same c.next_place-place.ensures.same;
}

pub returns : goal.returns
returns c =
    let all : (c.loop-number.place ≡ length c.args.carried.now) ↔ CanCarry c.args.old.now c.args.new.now c.args.entries.now c.args.carried.now =
    all-entries c.args.old.now c.args.new.now c.args.entries.now c.args.carried.now c.loop-number.number c.loop-number.place (omega arith)
    c.loop-number.invariant.within c.loop-number.invariant.same in
    search (rules, all)
