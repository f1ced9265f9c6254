use Rattle.std.proofs.Common.{refl, sym, arith}
use Rattle.std.proofs.lemmas.Option.{same_Some}
use Rattle.dist_future.proofs.FoundLemmas.{FreshFound, fresh-all}
use Rattle.dist_future.proofs.Leasts.{least-more}
use Rattle.dist_future.proofs.found.fresh_found.Goals as goal

pub loop-class-preserved : goal.loop-class-preserved
loop-class-preserved c =
    least-more (FreshFound c.args.space.now c.args.members.now c.args.atom.now c.in_ok-name.name) c.loop-class.class c.loop-class.least c.candidate.result
    c.lesser-least.result c.lesser-least.ensures c.loop-class.invariant c.candidate.ensures

pub returns : goal.returns
returns c =
    let name = c.in_ok-name.name in
    fresh-all c.args.space.now c.args.members.now c.args.atom.now name c.loop-class.class c.loop-class.least ((c.in_ok-name.ensures name).0 refl)
    (λ y is. sym (same_Some name y ((c.in_ok-name.ensures y).1 is)))
    (let e = c.name_class_count-class-end.ensures in omega (arith, e, c.loop-class-test.false)) c.loop-class.invariant
