use Rattle.std.proofs.Common.{List, arith, sym, subst}
use Rattle.dist_asked.specs.PlacedPrivate.{PlacedAtom}
use Rattle.dist_asked.proofs.MarkLemmas.{AreAllTo, all-none, all-pushed, all-whole}
use Rattle.dist_asked.proofs.placed.placed_in_field.Goals as goal

pub loop-place-init : goal.loop-place-init
loop-place-init c =
    subst (λ (placed : List PlacedAtom). AreAllTo c.args.atoms.now placed 0) (sym c.new-placed.ensures.items) (all-none c.args.atoms.now)

pub loop-place-preserved : goal.loop-place-preserved
loop-place-preserved c =
    all-pushed c.args.atoms.now c.loop-place.placed.items c.push.new.self.items c.new.result c.get-atom.result.now c.loop-place.place
    c.in_ok-push.ensures.items c.new.ensures c.get-atom.ensures c.loop-place.invariant

pub returns : goal.returns
returns c =
    all-whole c.args.atoms.now c.loop-place.placed.items c.loop-place.place
    (let e = c.len-place-end.ensures in omega (arith, e, c.loop-place-test.false)) c.loop-place.invariant
