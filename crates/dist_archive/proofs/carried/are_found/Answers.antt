use Rattle.std.proofs.Common.{arith}
use Rattle.std.proofs.lemmas.Option.{slice_get_within}
use Rattle.dist_archive.proofs.CarriedLemmas.{all-found, found-more}
use Rattle.dist_archive.proofs.carried.are_found.Goals as goal

pub loop-number-preserved : goal.loop-number-preserved
loop-number-preserved c =
    let old = c.args.old.now in
    let found = c.in-Some.ensures in record {
      within = omega (arith, found.next, slice_get_within old.provides found.place found.entry found.is);
      enough = found-more old.version c.args.new.now.version old.provides c.args.new.now.provides c.loop-number.number c.loop-number.from c.in-Some.behind
          c.get.result.now c.get.ensures found c.loop-number.invariant.enough;
    }

pub returns : goal.returns
returns c =
    all-found c.args.old.now.version c.args.new.now.version c.args.old.now.provides c.args.new.now.provides c.loop-number.number c.loop-number.from
    (omega (arith, c.len-number-end.ensures)) c.loop-number.invariant.enough
